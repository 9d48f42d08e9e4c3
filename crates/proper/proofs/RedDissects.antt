-- W8's cut dissects: its children are parts of the father and no two overlap. Assumes nothing.
use Rattle.std.proofs.Common.{inl, inr, arith}
use Rattle.std.specs.Prelude.{refl, ℕ, ◌+◌, ◌*◌, ◌-◌, min, pos, Option, None, Some}
use Rattle.lists.specs.Lists.{All, nil, cons}
use Rattle.lists.specs.ListsLaw.{All-imp}
use Rattle.whole.specs.Ring.{K, ◌:+◌, ◌:*◌}
use Rattle.meaning.specs.declared.Tri.{Tri}
use Rattle.meaning.specs.declared.Quarters.{Quarters}
use Rattle.meaning.specs.declared.Quarters.TheVariants.{Bisected, Red}
use Rattle.meaning.specs.Split.{red, cutting_of}
use Rattle.laws.specs.Cut.{parts}
use Rattle.proper.specs.Sums.{mix, level}
use Rattle.proper.specs.Dissects.{Back, Piece, Dissects, piece, nine, bisected-back, bisected-pieces}
use Rattle.proper.proofs.BisectedDissects.{bisected-dissects}

-- the weight that a midpoint gets of its ends B and C, where A is the third corner
abbrev halfway : ℕ → ℕ → ℕ → ℕ
halfway A B C = min (2 * min B C) ((B + C) - A)

-- with all three, or as bisection has it
abbrev if_all : Option ℕ → Option ℕ → ℕ → ℕ → ℕ
if_all None v x y = y
if_all (Some u) None x y = y
if_all (Some u) (Some v) x y = x

abbrev red-back : Back
red-back = record {
  qr = λ u v A B C. if_all u v (halfway A B C) (bisected-back.qr u v A B C);
  pq = λ u v A B C. if_all u v (halfway C A B) (bisected-back.pq u v A B C);
  rp = λ u v A B C. if_all u v (halfway B C A) (bisected-back.rp u v A B C);
}

red-pieces : (t : Tri) (m : ℕ) (u v : Option ℕ) → All (λ k. (a b c : ℕ) → Piece red-back t (Some m) u v (level (mix k a b c))) (parts (red t (Some m) u v))
red-pieces t m None v = All-imp (λ k g a b c. (let P = g a b c in record { fine = P.fine; qr-is = P.qr-is; pq-is = P.pq-is; rp-is = P.rp-is })) (bisected-pieces t m None v)
red-pieces t m (Some u) None = All-imp (λ k g a b c. (let P = g a b c in record { fine = P.fine; qr-is = P.qr-is; pq-is = P.pq-is; rp-is = P.rp-is })) (bisected-pieces t m (Some u) None)
red-pieces t m (Some u) (Some v) =
    cons (λ a b c. piece red-back t m (Some u) (Some v) a 0 0 0 b c tt tt (inl refl) (inr refl) (inl refl)
    (λ φ. nine t m u v a b c φ (λ a b c p q r m u v. (a :* p :+ b :* u :+ c :* v, a :* p :+ K (pos 0) :* q :+ K (pos 0) :* r :+ (K (pos 0) :* m :+ b :* u :+ c :* v))) tt) (omega arith) (omega arith) (omega arith))
    (cons (λ a b c. piece red-back t m (Some u) (Some v) 0 b 0 c a 0 tt tt (inr refl) (inl refl) (inl refl)
    (λ φ. nine t m u v a b c φ (λ a b c p q r m u v. (a :* u :+ b :* q :+ c :* m, K (pos 0) :* p :+ b :* q :+ K (pos 0) :* r :+ (c :* m :+ a :* u :+ K (pos 0) :* v))) tt) (omega arith) (omega arith) (omega arith))
    (cons (λ a b c. piece red-back t m (Some u) (Some v) 0 0 c b 0 a tt tt (inl refl) (inl refl) (inr refl)
    (λ φ. nine t m u v a b c φ (λ a b c p q r m u v. (a :* v :+ b :* m :+ c :* r, K (pos 0) :* p :+ K (pos 0) :* q :+ c :* r :+ (b :* m :+ K (pos 0) :* u :+ a :* v))) tt) (omega arith) (omega arith) (omega arith))
    (cons (λ a b c. piece red-back t m (Some u) (Some v) 0 0 0 a c b tt tt (inl refl) (inl refl) (inl refl)
    (λ φ. nine t m u v a b c φ (λ a b c p q r m u v. (a :* m :+ b :* v :+ c :* u, K (pos 0) :* p :+ K (pos 0) :* q :+ K (pos 0) :* r :+ (a :* m :+ c :* u :+ b :* v))) tt) (omega arith) (omega arith) (omega arith)) nil)))

pub red-dissects : Dissects red
red-dissects = record { back = red-back; pieces = red-pieces }

-- HOWEVER A TRIANGLE IS QUARTERED, the cut dissects
pub quarters-dissect : (q : Quarters) → Dissects (cutting_of q)
quarters-dissect Bisected = bisected-dissects
quarters-dissect Red = red-dissects
