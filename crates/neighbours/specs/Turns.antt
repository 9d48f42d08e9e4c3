-- What the neighbour search takes, where a search for x→y has at most as many turns as corners are x, or are y, whichever are fewer: over
-- all directed edges of a lawful mesh that is never quadratic. With d for how many corners are a node, min(d x, d y) squared is at most
-- d x * d y; the sum of these products counts pairs of corners, one named x and one y, and each pair is met by one edge at most, so that
-- it is n * n with n corners; and the square of a sum of n numbers is at most n times the sum of their squares. Assumes nothing.
use Rattle.std.specs.Prelude.{Bool, true, false, ◌&&◌, List, [], ◌∷◌, ◌≡◌, refl, ℕ, zero, suc, min, ◌+◌, ◌-◌, ◌*◌, ◌≤◌, ◌<◌, eqb, leb, length, get_or}
use Rattle.std.proofs.Common.{sym, ◌∙◌, mul-le-mul, mul-le-mul_left, arith, leb-true, leb-false}
use Rattle.lists.specs.Lists.{cases, count, suc_if, joined}
use Rattle.lists.specs.ListsLaw.{All-of, count-append}
use Rattle.lists.specs.ItemsLaw.{joined-append, items-none, items-snoc}
use Rattle.lists.specs.Search.{items}
use Rattle.lists.specs.Tally.{if-so, bit, tally, tally-le, tally-eq, tally-zero, tally-length, tally-swap, count-tally}
use Rattle.meaning.specs.declared.Tri.{Tri}
use Rattle.meaning.specs.Mesh.{Mesh, Arrow, tri, arrow, arrows, same_arrow}
use Rattle.meaning.specs.Lawful.{Lawful}
use Rattle.meaning.specs.Tables.{row_at}
use Rattle.neighbours.specs.Slots.{many}
use Rattle.neighbours.specs.Walk.{count_at, rarer}
use Rattle.neighbours.specs.Join.{Exact}

-- how many of the directed edges go out of node v
abbrev out_of : List Arrow → ℕ → ℕ
out_of es v = count (λ e. eqb e.from v) es

-- how many corners of the rows are node v: out of each goes one directed edge
unfoldable pub times_named : List Tri → ℕ → ℕ
times_named ts = out_of (joined arrows ts)

-- the turns of one search for each directed edge of the rows, at most
unfoldable pub turns : List Tri → ℕ
turns ts = tally (λ e. min (times_named ts e.from) (times_named ts e.to)) (joined arrows ts)

-- ---- sums

two-squares : (a b : ℕ) → 2 * (a * b) ≤ a * a + b * b
two-squares a b = go (leb a b) refl
  where
    apart : (c d : ℕ) → 2 * (c * (c + d)) ≤ c * c + (c + d) * (c + d)
    apart c d = omega arith

    go : (t : Bool) → leb a b ≡ t → 2 * (a * b) ≤ a * a + b * b
    go true e = let h = leb-true a b e in let q : a + (b - a) ≡ b = omega arith in rw q at (apart a (b - a))
    go false e = let h = leb-false a b e in let q : b + (a - b) ≡ a = omega arith in let k = rw q at (apart b (a - b)) in omega arith

module _ {A : Type 0} where
  tally-same : (k : ℕ) (xs : List A) → tally (λ x. k) xs ≡ length xs * k
  tally-same k [] = omega arith
  tally-same k (x ∷ xs) = let h = tally-same k xs in omega arith

  count-times : (p : A → Bool) (k : ℕ) (xs : List A) → count p xs * k ≡ tally (λ x. if-so (p x) k) xs
  count-times p k [] = omega arith
  count-times p k (x ∷ xs) = go (p x) (count-times p k xs)
    where
      go : (b : Bool) → count p xs * k ≡ tally (λ x. if-so (p x) k) xs → suc_if b (count p xs) * k ≡ if-so b k + tally (λ x. if-so (p x) k) xs
      go true h = omega arith
      go false h = omega arith

  if-count : (b : Bool) (p : A → Bool) (xs : List A) → if-so b (count p xs) ≡ tally (λ x. bit (b && p x)) xs
  if-count true p xs = count-tally p xs
  if-count false p xs = sym (tally-zero (λ x. 0) (All-of xs (λ x i. refl)))

  twice-product : (k : ℕ) (f : A → ℕ) (xs : List A) → 2 * (k * tally f xs) ≤ length xs * (k * k) + tally (λ x. f x * f x) xs
  twice-product k f [] = omega arith
  twice-product k f (x ∷ xs) = let h = twice-product k f xs in let g = two-squares k (f x) in omega arith

  -- the square of a sum
  square-sum : (f : A → ℕ) (xs : List A) → tally f xs * tally f xs ≤ length xs * tally (λ x. f x * f x) xs
  square-sum f [] = omega arith
  square-sum f (x ∷ xs) = let h = square-sum f xs in let g = twice-product (f x) f xs in omega arith

-- ---- directed edges of which none occurs twice

module _ (es : List Arrow) (once : (e : Arrow) → count (same_arrow e) es ≤ 1) where
  -- the edges out of one node end at different nodes, so that what goes out of those is counted once
  out-next : (v : ℕ) → tally (λ e. if-so (eqb v e.from) (out_of es e.to)) es ≤ length es
  out-next v =
      let a = each in
      let b = tally-swap (λ e d. bit (same_arrow (way d) e)) es es in
      let c = tally-le (λ d. tally (λ e. bit (same_arrow (way d) e)) es) (λ d. 1) (All-of es (λ d i. single d)) in
      let d = tally-length es in
      omega arith
    where
      way : Arrow → Arrow
      way d = arrow v d.from

      each : tally (λ e. if-so (eqb v e.from) (out_of es e.to)) es ≡ tally (λ e. tally (λ d. bit (same_arrow (way d) e)) es) es
      each = tally-eq _ _ (All-of es (λ e i. if-count (eqb v e.from) (λ d. eqb d.from e.to) es))

      single : (d : Arrow) → tally (λ e. bit (same_arrow (way d) e)) es ≤ 1
      single d = let h = once (way d) in let g = count-tally (same_arrow (way d)) es in omega arith

  out-product : tally (λ e. out_of es e.from * out_of es e.to) es ≤ length es * length es
  out-product =
      let a = each in
      let b = tally-swap through es es in
      let c = tally-le (λ d. tally (λ e. through e d) es) (λ d. length es) (All-of es (λ d i. out-next d.from)) in
      let d = tally-same (length es) es in
      omega arith
    where
      through : Arrow → Arrow → ℕ
      through e d = if-so (eqb d.from e.from) (out_of es e.to)

      each : tally (λ e. out_of es e.from * out_of es e.to) es ≡ tally (λ e. tally (through e) es) es
      each = tally-eq _ _ (All-of es (λ e i. count-times (λ d. eqb d.from e.from) (out_of es e.to) es))

  out-few : tally (λ e. min (out_of es e.from) (out_of es e.to)) es * tally (λ e. min (out_of es e.from) (out_of es e.to)) es ≤ length es * length es * length es
  out-few =
      let f : Arrow → ℕ = λ e. min (out_of es e.from) (out_of es e.to) in
      let a = square-sum f es in
      let b = tally-le (λ e. f e * f e) (λ e. out_of es e.from * out_of es e.to) (All-of es (λ e i. mul-le-mul (omega arith) (omega arith))) in
      let c = mul-le-mul_left (length es) b in
      let d = mul-le-mul_left (length es) out-product in
      omega arith

-- ---- rows

arrows-length : (ts : List Tri) → length (joined arrows ts) ≡ 3 * length ts
arrows-length [] = omega arith
arrows-length (t ∷ ts) = let h = arrows-length ts in omega arith

-- with n corners, at most n times the square root of n
pub turns-few : (ts : List Tri) → ((e : Arrow) → count (same_arrow e) (joined arrows ts) ≤ 1) → turns ts * turns ts ≤ 3 * length ts * (3 * length ts) * (3 * length ts)
unfolding turns times_named
turns-few ts once = rw (arrows-length ts) at (out-few (joined arrows ts) once)

pub turns-lawful : (m : Mesh) → Lawful m → turns m.tris * turns m.tris ≤ 3 * length m.tris * (3 * length m.tris) * (3 * length m.tris)
turns-lawful m law = turns-few m.tris law.no_twice

-- "room TC at most 2,048 rows": 6,144 searches of fewer than 79 turns, on the average
pub turns-01 : (m : Mesh) → Lawful m → length m.tris ≤ 2048 → turns m.tris ≤ 481_589
turns-01 m law few = go (leb (turns m.tris) 481_589) refl
  where
    go : (t : Bool) → leb (turns m.tris) 481_589 ≡ t → turns m.tris ≤ 481_589
    go true e = leb-true (turns m.tris) 481_589 e
    go false e =
        let a = turns-lawful m law in
        let corners : 3 * length m.tris ≤ 6144 = omega arith in
        let b = mul-le-mul (mul-le-mul corners corners) corners in
        let more : 481_590 ≤ turns m.tris = leb-false (turns m.tris) 481_589 e in
        let c = mul-le-mul more more in
        absurd (omega arith)

-- ---- the slots of a triangle table

one_in : (a : Bool) (k : ℕ) → suc_if a k ≡ k + suc_if a 0
one_in true k = omega arith
one_in false k = omega arith

three-in : (a b c : Bool) (k : ℕ) → suc_if c (suc_if b (suc_if a k)) ≡ k + suc_if a (suc_if b (suc_if c 0))
three-in a b c k =
    let u = one_in c (suc_if b (suc_if a k)) in
    let v = one_in b (suc_if a k) in
    let w = one_in a k in
    let x = one_in a (suc_if b (suc_if c 0)) in
    let y = one_in b (suc_if c 0) in
    omega arith

many-row : (l : List ℕ) (v t : ℕ) → many (λ k. get_or l k 0) v (3 * (t + 1)) ≡ many (λ k. get_or l k 0) v (3 * t) + out_of (arrows (row_at l t)) v
unfolding many row_at
many-row l v t =
    let e : 3 * (t + 1) ≡ suc (suc (suc (3 * t))) = omega arith in
    let f : suc (suc (3 * t)) ≡ 3 * t + 2 = omega arith in
    let g : suc (3 * t) ≡ 3 * t + 1 = omega arith in
    rw e (rw (f, g) (three-in (eqb (get_or l (3 * t) 0) v) (eqb (get_or l (3 * t + 1) 0) v) (eqb (get_or l (3 * t + 2) 0) v) _))

named-row : (l : List ℕ) (v t : ℕ) → times_named (items (row_at l) 0 (t + 1)) v ≡ times_named (items (row_at l) 0 t) v + out_of (arrows (row_at l t)) v
unfolding times_named
named-row l v t =
    rw (items-snoc (row_at l) 0 t (omega arith), joined-append arrows (items (row_at l) 0 t) (row_at l t ∷ []))
    (count-append (λ e. eqb e.from v) (joined arrows (items (row_at l) 0 t)) (arrows (row_at l t)))

-- as many slots of the first t rows have the key v as these rows have corners that are node v
pub many-named : (l : List ℕ) (v t : ℕ) → many (λ k. get_or l k 0) v (3 * t) ≡ times_named (items (row_at l) 0 t) v
unfolding many times_named
many-named l v zero = rw (items-none (row_at l) 0 0 (omega arith))
many-named l v (suc t) =
    let e : suc t ≡ t + 1 = omega arith in
    let a = many-row l v t in
    let b = named-row l v t in
    let c = many-named l v t in
    rw e (omega arith)

-- what the code counts down from as it walks: as many corners as are x, or are y, whichever are fewer
pub search-turns : (s : List ℕ) (nc : ℕ) (rows : List ℕ) (t x y : ℕ) → Exact s nc rows (3 * t) → x < nc → y < nc →
    count_at s nc rows (rarer s nc rows x y) ≡ min (times_named (items (row_at rows) 0 t) x) (times_named (items (row_at rows) 0 t) y)
search-turns s nc rows t x y e a b = go (leb (count_at s nc rows x) (count_at s nc rows y)) refl
  where
    counted : (v : ℕ) → v < nc → count_at s nc rows v ≡ times_named (items (row_at rows) 0 t) v
    counted v h = e.listed.counts v h ∙ many-named rows v t

    go : (c : Bool) → leb (count_at s nc rows x) (count_at s nc rows y) ≡ c →
        count_at s nc rows (cases c x y) ≡ min (times_named (items (row_at rows) 0 t) x) (times_named (items (row_at rows) 0 t) y)
    go true q = let h = leb-true (count_at s nc rows x) (count_at s nc rows y) q in let f = counted x a in let g = counted y b in omega arith
    go false q = let h = leb-false (count_at s nc rows x) (count_at s nc rows y) q in let f = counted x a in let g = counted y b in omega arith

-- ---- computed

-- five rows round node 0: two turns a search, though five corners are node 0
fan : turns (tri 0 1 2 ∷ tri 0 2 3 ∷ tri 0 3 4 ∷ tri 0 4 5 ∷ tri 0 5 1 ∷ []) ≡ 30
unfolding turns times_named
fan = refl

-- two rows that share an edge: two turns for each way of it, one for every other edge
shared : turns (tri 1 2 0 ∷ tri 3 0 2 ∷ []) ≡ 8
unfolding turns times_named
shared = refl
