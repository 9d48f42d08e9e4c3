-- Each edge once, where it is first met: what one edge more adds, and the places of the edges. Assumes nothing.
use Rattle.std.specs.Prelude.{◌≡◌, refl, Bool, true, false, not, ◌&&◌, ◌||◌, List, [], ◌∷◌, ◌++◌, length, Some}
use Rattle.std.proofs.Common.{sym, ap, ap₂, ◌∙◌, subst, append_assoc, append-nil}
use Rattle.lists.specs.Lists.{All, any, only, cons_if, once, where_first}
use Rattle.lists.specs.ListsLaw.{clash, or_no, both_ways, All-imp}
use Rattle.lists.specs.MembersLaw.{only-cong}
use Rattle.lists.specs.AnyLaw.{any_append, any-once}
use Rattle.lists.specs.PartsLaw.{only-append, cons_if-append, where-here}
use Rattle.meaning.specs.Mesh.{Edge, same_edge}
use Rattle.laws.specs.Edges.{same_edge-eq, same_edge-refl}

pub edge-sym : (d e : Edge) → same_edge d e ≡ same_edge e d
edge-sym d e = both_ways (same_edge d e) (same_edge e d) (one d e) (one e d)
  where
    one : (d e : Edge) → same_edge d e ≡ true → same_edge e d ≡ true
    one d e t = subst (λ (x : Edge). same_edge e x ≡ true) (sym (same_edge-eq d e t)) (same_edge-refl e)

pub any-once-edge : (e : Edge) (l : List Edge) → any (same_edge e) (once same_edge l) ≡ any (same_edge e) l
any-once-edge e l = any-once same_edge (same_edge e) (λ x y t. ap (same_edge e) (same_edge-eq x y t)) l

once-new : (l : List Edge) (e : Edge) → any (same_edge e) l ≡ false → once same_edge (l ++ (e ∷ [])) ≡ once same_edge l ++ (e ∷ [])
once-new [] e n = refl
once-new (x ∷ xs) e n =
    let h = or_no (same_edge e x) (any (same_edge e) xs) n in
    let q : same_edge x e ≡ false = edge-sym x e ∙ h.0 in
    rw (once-new xs e h.1, only-append (λ y. not (same_edge x y)) (once same_edge xs) (e ∷ []), q)

once-old : (l : List Edge) (e : Edge) → any (same_edge e) l ≡ true → once same_edge (l ++ (e ∷ [])) ≡ once same_edge l
once-old [] e t = clash (sym t)
once-old (x ∷ xs) e t = go (any (same_edge e) xs) refl (same_edge e x) refl t (once-old xs e)
  where
    go : (a : Bool) → any (same_edge e) xs ≡ a → (b : Bool) → same_edge e x ≡ b → b || a ≡ true →
        (any (same_edge e) xs ≡ true → once same_edge (xs ++ (e ∷ [])) ≡ once same_edge xs) → once same_edge (x ∷ (xs ++ (e ∷ []))) ≡ once same_edge (x ∷ xs)
    go true p b q r below = rw (below p)
    go false p true q r below =
        let s : same_edge x e ≡ true = edge-sym x e ∙ q in
        rw (once-new xs e p, only-append (λ y. not (same_edge x y)) (once same_edge xs) (e ∷ []), s, append-nil)
    go false p false q r below = clash (sym r)

-- an edge that may be there: it is added, if it is there and was not met before
once-add : (l : List Edge) (b : Bool) (e : Edge) → once same_edge (l ++ cons_if b e []) ≡ once same_edge l ++ cons_if (b && not (any (same_edge e) l)) e []
once-add l true e = go (any (same_edge e) l) refl
  where
    go : (a : Bool) → any (same_edge e) l ≡ a → once same_edge (l ++ (e ∷ [])) ≡ once same_edge l ++ cons_if (not a) e []
    go true q = once-old l e q ∙ sym (append-nil (once same_edge l))
    go false q = once-new l e q
once-add l false e = rw (append-nil l, append-nil (once same_edge l))

-- ---- several edges more, of which no two are the same

pub data Apart : List Edge → Type 0 where
  none : Apart []
  apart : {e : Edge} {l : List Edge} → All (λ d. same_edge d e ≡ false) l → Apart l → Apart (e ∷ l)

any-if : (e d : Edge) (b : Bool) → same_edge e d ≡ false → any (same_edge e) (cons_if b d []) ≡ false
any-if e d true n = rw n
any-if e d false n = refl

or-no-more : (a : Bool) → a || false ≡ a
or-no-more true = refl
or-no-more false = refl

-- e is still not met, or still met, where one edge more is another
any-still : (e d : Edge) (P : List Edge) (b : Bool) → same_edge e d ≡ false → any (same_edge e) (P ++ cons_if b d []) ≡ any (same_edge e) P
any-still e d P b n = any_append (same_edge e) P (cons_if b d []) ∙ ap (λ (c : Bool). any (same_edge e) P || c) (any-if e d b n) ∙ or-no-more (any (same_edge e) P)

if-front : (b : Bool) (e : Edge) (P l : List Edge) → P ++ cons_if b e l ≡ (P ++ cons_if b e []) ++ l
if-front b e P l = ap (λ (r : List Edge). P ++ r) (cons_if-append b e [] l) ∙ sym (append_assoc P (cons_if b e []) l)

module _ (mem : Edge → Bool) where
  -- in the set, and not met in P
  abbrev pub new_to : List Edge → Edge → Bool
  new_to P e = mem e && not (any (same_edge e) P)

  -- those of the set are added that were not met before
  pub once_more : (P : List Edge) {B : List Edge} → Apart B → once same_edge (P ++ only mem B) ≡ once same_edge P ++ only (new_to P) B
  once_more P none = rw (append-nil P, append-nil (once same_edge P))
  once_more P (apart {e = e} {l = l} h r) =
      ap (once same_edge) (if-front (mem e) e P (only mem l)) ∙ once_more (P ++ cons_if (mem e) e []) r
      ∙ ap₂ (λ x y. x ++ y) (once-add P (mem e) e)
      (only-cong (new_to (P ++ cons_if (mem e) e [])) (new_to P) (All-imp (λ d n. ap (λ (b : Bool). mem d && not b) (any-still d e P (mem e) n)) h))
      ∙ sym (if-front (new_to P e) e (once same_edge P) (only (new_to P) l))

-- what comes first stays first
once-prefix : (P Q : List Edge) → (R : List Edge) × (once same_edge (P ++ Q) ≡ once same_edge P ++ R)
once-prefix [] Q = (once same_edge Q, refl)
once-prefix (x ∷ P) Q =
    let r = once-prefix P Q in
    (only (λ y. not (same_edge x y)) r.0, rw (r.1, only-append (λ y. not (same_edge x y)) (once same_edge P) r.0))

-- the place of an edge is the number of edges before it
pub once-place : (P Q : List Edge) (e : Edge) → any (same_edge e) P ≡ false → where_first (same_edge e) (once same_edge (P ++ (e ∷ Q))) ≡ Some (length (once same_edge P))
once-place P Q e a =
    let r = once-prefix (P ++ (e ∷ [])) Q in
    let f : once same_edge (P ++ (e ∷ Q)) ≡ once same_edge P ++ (e ∷ r.0) =
    ap (once same_edge) (sym (append_assoc P (e ∷ []) Q)) ∙ r.1 ∙ rw (once-new P e a, append_assoc) in
    rw (f, where-here (same_edge e) (once same_edge P) e r.0 (any-once-edge e P ∙ a) (same_edge-refl e))
