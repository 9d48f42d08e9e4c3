-- Laws of tables of records, over the width: a record that is written is read, the others stay; what is written is read back, what was
-- read is written back; lengths. Assumes nothing.
use Rattle.std.specs.Prelude.{◌≡◌, ◌≢◌, set, take, drop, replicate}
use Rattle.std.proofs.Math.Path.{refl}
use Rattle.std.proofs.Common.{sym, ap, ap₂, ◌∙◌, mul-zero, mul-suc, mul-le-mul_left, length-append, get_or-set_other, get_or-append-add, drop-cons, take-add, length-take-le, subst}
use mathlib.Core.List.{List, [], ◌∷◌, ◌++◌, append_assoc, append-nil}
use Prim.Native.Nat.{ℕ, zero, suc, ◌+◌, ◌-◌, ◌*◌, ◌≤◌, ◌<◌}
use Rattle.std.proofs.Math.Numerals.{add-one}
use native.Mathlib.Omega.{arith}
use Rattle.std.proofs.Math.Decide.{ℕ_discrete}
use Rattle.std.proofs.Math.ListN.{length, get_or, get_or-append}
use Rattle.std.proofs.lemmas.List.Edits.{sets, sets-eq}
use Rattle.std.proofs.Math.Seq.{length-sets}
use Rattle.lists.specs.Search.{items, items_from}
use Rattle.lists.specs.ItemsLaw.{from-count, items-none, items-snoc, joined-append}
use Rattle.lists.specs.Table.{Form, read_at, write_at, flatten, Faithful}

-- ---- lists

module _ {A : Type 0} where
  -- where nothing is stored
  sets-other : (vs l : List A) (n m : ℕ) (d : A) → ((i : ℕ) → i < length vs → m ≢ n + i) → get_or (sets l n vs) m d ≡ get_or l m d
  sets-other [] l n m d h = refl
  sets-other (v ∷ vs) l n m d h =
      let o : m ≢ n = let a = h 0 (omega arith) in omega arith in
      sets-other vs (set l n v) (suc n) m d (λ i b. (let a = h (suc i) (omega arith) in omega arith)) ∙ get_or-set_other l n m v d o

  -- where something is
  sets-here : (vs l : List A) (n i : ℕ) (d : A) → i < length vs → n + length vs ≤ length l → get_or (sets l n vs) (n + i) d ≡ get_or vs i d
  sets-here vs l n i d h r =
      let e = length-take-le n l (omega arith) in
      let b : n + i < length (take n l ++ vs) = omega (arith, length-append (take n l) vs) in
      rw (sets-eq vs l n r) (get_or-append (take n l ++ vs) (drop (n + length vs) l) d (n + i) b ∙ rw e at (get_or-append-add (take n l) vs i d))

  pub from-taken : (l : List A) (d : A) (n k : ℕ) → n + k ≤ length l → items_from (λ m. get_or l m d) n k ≡ take k (drop n l)
  unfolding items_from
  from-taken l d n zero h = refl
  from-taken l d n (suc k) h =
      let b : n < length l = omega arith in
      rw (drop-cons l n d b) (ap (λ (r : List A). get_or l n d ∷ r) (rw add-one (from-taken l d (suc n) k (omega arith))))

from-shifted : {R : Type 0} (f g : ℕ → R) (a b k : ℕ) → ((i : ℕ) → i < k → f (a + i) ≡ g (b + i)) → items_from f a k ≡ items_from g b k
unfolding items_from
from-shifted f g a b zero h = refl
from-shifted f g a b (suc k) h =
    let p : a + 0 ≡ a = omega arith in
    let q : b + 0 ≡ b = omega arith in
    ap₂ ◌∷◌ (rw (p, q) at (h 0 (omega arith)))
    (from-shifted f g (a + 1) (b + 1) k
    (λ i l.
    (let p : a + 1 + i ≡ a + suc i = omega arith in
    let q : b + 1 + i ≡ b + suc i = omega arith in
    rw (p, q) (h (suc i) (omega arith)))))

-- ---- a table is read and written record by record, each of w numbers

pub record Table {A R : Type 0} (w : ℕ) (read : List A → ℕ → R) (write : List A → ℕ → R → List A) : Type 0 where
  pub long : (l : List A) (k : ℕ) (r : R) → length (write l k r) ≡ length l
  pub same : (l : List A) (k : ℕ) (r : R) → w * k + w ≤ length l → read (write l k r) k ≡ r
  pub other : (l : List A) (k j : ℕ) (r : R) → j ≢ k → read (write l k r) j ≡ read l j

-- the numbers of one record are not those of another
numbers_apart : (w j k i i' : ℕ) → j ≢ k → i < w → i' < w → w * j + i ≢ w * k + i'
numbers_apart w j k i i' o a b e = go (ℕ_discrete (j - k) 0)
  where
    go : Dec (j - k ≡ 0) → ⊥
    go (yes f) = let m : w * suc j ≤ w * k = mul-le-mul_left w (omega arith) in omega (arith, mul-suc w j)
    go (no f) = let m : w * suc k ≤ w * j = mul-le-mul_left w (omega arith) in omega (arith, mul-suc w k)

module _ {A R : Type 0} (F : Form A R) (S : Faithful F) where
  fields-length : (r : R) → length (F.fields r) ≡ F.width
  fields-length r =
      ap (λ (x : R). length (F.fields x)) (sym (S.from_fields r [])) ∙ ap length (S.fields-from (λ n. get_or (F.fields r ++ []) n F.blank) 0)
      ∙ from-count (λ n. get_or (F.fields r ++ []) n F.blank) 0 F.width

  -- a record is its numbers
  from-same : (f g : ℕ → A) (a b : ℕ) → ((i : ℕ) → i < F.width → f (a + i) ≡ g (b + i)) → F.from f a ≡ F.from g b
  from-same f g a b h =
      sym (S.from_fields (F.from f a) [])
      ∙ ap (λ (l : List A). F.from (λ n. get_or (l ++ []) n F.blank) 0) (S.fields-from f a ∙ from-shifted f g a b F.width h ∙ sym (S.fields-from g b))
      ∙ S.from_fields (F.from g b) []

  pub form-table : Table F.width (read_at F) (write_at F)
  form-table = record {
    long = λ l k r. length-sets l (F.width * k) (F.fields r);
    same = λ l k r h.
        (let e = fields-length r in
        from-same (λ n. get_or (write_at F l k r) n F.blank) (λ n. get_or (F.fields r ++ []) n F.blank) (F.width * k) 0
        (λ i b.
        (let z : 0 + i ≡ i = omega arith in
        rw (z, append-nil) (sets-here (F.fields r) l (F.width * k) i F.blank (omega arith) (omega arith))))
        ∙ S.from_fields r []);
    other = λ l k j r o.
        from-same (λ n. get_or (write_at F l k r) n F.blank) (λ n. get_or l n F.blank) (F.width * j) (F.width * j)
        (λ i b. sets-other (F.fields r) l (F.width * k) (F.width * j + i) F.blank (λ i' c. numbers_apart F.width j k i i' o b (rw (fields-length r) at c)));
  }

  pub flatten-length : (rs : List R) → length (flatten F rs) ≡ F.width * length rs
  flatten-length [] = sym (mul-zero F.width)
  flatten-length (r ∷ rs) = omega (arith, length-append (F.fields r) (flatten F rs), fields-length r, flatten-length rs, mul-suc F.width (length rs))

  first-record : (r : R) (l : List A) → read_at F (F.fields r ++ l) 0 ≡ r
  first-record r l = ap (F.from (λ n. get_or (F.fields r ++ l) n F.blank)) (mul-zero F.width) ∙ S.from_fields r l

  next-record : (r : R) (l : List A) (j : ℕ) → read_at F (F.fields r ++ l) (1 + j) ≡ read_at F l (0 + j)
  next-record r l j =
      let y : 1 + j ≡ suc j = omega arith in
      let z : 0 + j ≡ j = omega arith in
      rw (y, z)
      (from-same (λ n. get_or (F.fields r ++ l) n F.blank) (λ n. get_or l n F.blank) (F.width * suc j) (F.width * j)
      (λ i b.
      (let e : F.width * suc j + i ≡ length (F.fields r) + (F.width * j + i) = omega (arith, mul-suc F.width j, fields-length r) in
      rw e (get_or-append-add (F.fields r) l (F.width * j + i) F.blank))))

  -- what is written is read back
  from-read : (rs : List R) (more : List A) → items_from (read_at F (flatten F rs ++ more)) 0 (length rs) ≡ rs
  unfolding items_from
  from-read [] more = refl
  from-read (r ∷ rs) more =
      let e : flatten F (r ∷ rs) ++ more ≡ F.fields r ++ (flatten F rs ++ more) = append_assoc (F.fields r) (flatten F rs) more in
      subst (λ (l : List A). items_from (read_at F l) 0 (length (r ∷ rs)) ≡ r ∷ rs) (sym e)
      (ap₂ ◌∷◌ (first-record r (flatten F rs ++ more))
      (from-shifted (read_at F (F.fields r ++ (flatten F rs ++ more))) (read_at F (flatten F rs ++ more)) 1 0 (length rs) (λ i l. next-record r (flatten F rs ++ more) i)
      ∙ from-read rs more))

  pub read_back : (rs : List R) (more : List A) → items (read_at F (flatten F rs ++ more)) 0 (length rs) ≡ rs
  unfolding items
  read_back rs more = let z : length rs - 0 ≡ length rs = omega arith in rw z (from-read rs more)

  -- what was read is written back
  pub written_back : (l : List A) (k : ℕ) → F.width * k ≤ length l → flatten F (items (read_at F l) 0 k) ≡ take (F.width * k) l
  written_back l zero h = rw (mul-zero F.width, items-none (read_at F l) 0 0 (omega arith))
  written_back l (suc k) h =
      let e : suc k ≡ k + 1 = omega arith in
      let m = mul-suc F.width k in
      let z : 0 ≤ k = omega arith in
      let b : F.width * k + F.width ≤ length l = omega arith in
      let i : flatten F (items (read_at F l) 0 k) ≡ take (F.width * k) l = written_back l k (omega arith) in
      let s : F.fields (read_at F l k) ≡ take F.width (drop (F.width * k) l) =
      S.fields-from (λ n. get_or l n F.blank) (F.width * k) ∙ from-taken l F.blank (F.width * k) F.width b in
      rw (m, e, items-snoc (read_at F l) 0 k z, joined-append F.fields, i, s, append-nil, take-add (F.width * k) F.width l)

  -- the table that holds the first k, and nothing after
  pub blank-after : (l : List A) (k : ℕ) → F.width * k ≤ length l →
      take (F.width * k) l ++ replicate (length l - F.width * k) F.blank ≡
      flatten F (items (read_at F l) 0 k) ++ replicate (length l - length (flatten F (items (read_at F l) 0 k))) F.blank
  blank-after l k h = rw (written_back l k h, length-take-le (F.width * k) l h)
