-- Laws of single steps, which the check finds alone today: rows as the code sees them, the steps of each test in the form of their needs. Assumes nothing.
use Rattle.std.specs.Prelude.{◌≡◌, Bool, not, ◌||◌, List, ℕ, ℤ, pos}
use Rattle.std.proofs.Math.Path.{sym}
use Rattle.std.proofs.Common.{◌∙◌, arith}
use Rattle.std.proofs.Math.Bool.{true, false}
use borrow.Author.Tests.{not-true, not-false}
use Rattle.std.specs.Int.Signed.{le_z, lt_z}
use Rattle.whole.specs.Diff.{onℤ}
use Rattle.whole.specs.Tests.{tests}
use Rattle.meaning.specs.declared.Place.{Place}
use Rattle.meaning.specs.declared.Tri.{Tri}
use Rattle.meaning.specs.Mesh.{turn}
use Rattle.meaning.specs.Tables.{place_at}
use Rattle.pairs.specs.declared.Corner.{Corner}
use Rattle.pairs.specs.declared.Seen.{Seen}
use Rattle.pairs.specs.Seen.{seen_by, corner_by, is_end, left_of, right_of, not_beyond, is_on, is_clear, some_left, all_clear, clean, meets, crosses, grave_seen}

-- ---- one side and one corner, test by test

module _ (a b c : Corner) where
  abbrev z : ℤ
  z = turn a.place b.place c.place

  -- x, l and r are what the code found
  module _ (x : Bool) (e : x ≡ is_end a b c) where
    pub on-end : x ≡ true → false ≡ is_on a b c
    unfolding is_on
    on-end h = rw (← e, h)

    module _ (h : x ≡ false) (l : Bool) (d : l ≡ left_of a b c) where
      pub on-left : l ≡ true → false ≡ is_on a b c
      unfolding is_on left_of
      on-left k =
          let m : lt_z (pos 0) z ≡ true = sym d ∙ k in
          let f : le_z z (pos 0) ≡ false = omega (arith, onℤ, tests) in
          rw (← e, h, f)

      module _ (k : l ≡ false) (r : Bool) (g : r ≡ right_of a b c) where
        not_left : le_z z (pos 0) ≡ true
        unfolding left_of
        not_left = let m : lt_z (pos 0) z ≡ false = sym d ∙ k in omega (arith, onℤ, tests)

        pub on-right : r ≡ true → false ≡ is_on a b c
        unfolding is_on right_of
        on-right n =
            let m : lt_z z (pos 0) ≡ true = sym g ∙ n in
            let f : le_z (pos 0) z ≡ false = omega (arith, onℤ, tests) in
            rw (← e, h, not_left, f)

        pub on_line : r ≡ false → (y : Bool) → y ≡ not_beyond a b c → y ≡ is_on a b c
        unfolding is_on right_of
        on_line n y o =
            let m : lt_z z (pos 0) ≡ false = sym g ∙ n in
            let f : le_z (pos 0) z ≡ true = omega (arith, onℤ, tests) in
            rw (← e, h, not_left, f) o

-- ---- one side and a row, two rows: x, y and z are what the code found, in order

module _ (a b : Corner) (t : Seen) (x : Bool) (d : x ≡ is_clear a b t.p) where
  pub clear-not-p : not x ≡ true → false ≡ all_clear a b t
  unfolding all_clear
  clear-not-p h = rw (← d, not-true x h)

  module _ (h : not x ≡ false) (y : Bool) (e : y ≡ is_clear a b t.q) where
    pub clear-not-q : not y ≡ true → false ≡ all_clear a b t
    unfolding all_clear
    clear-not-q k = rw (← d, not-false x h, ← e, not-true y k)

    pub clear-all : not y ≡ false → (z : Bool) → z ≡ is_clear a b t.r → z ≡ all_clear a b t
    unfolding all_clear
    clear-all k z f = rw (← d, not-false x h, ← e, not-false y k) f

module _ (t u : Seen) (x : Bool) (d : x ≡ all_clear t.p t.q u) where
  pub clean-pq : x ≡ true → true ≡ clean t u
  unfolding clean
  clean-pq h = rw (← d, h)

  module _ (h : x ≡ false) (y : Bool) (e : y ≡ all_clear t.q t.r u) where
    pub clean-qr : y ≡ true → true ≡ clean t u
    unfolding clean
    clean-qr k = rw (← d, h, ← e, k)

    pub clean-rp : y ≡ false → (z : Bool) → z ≡ all_clear t.r t.p u → z ≡ clean t u
    unfolding clean
    clean-rp k z f = rw (← d, h, ← e, k) f

module _ (t u : Seen) (x : Bool) (d : x ≡ some_left t.p t.q u) where
  pub cross-not-pq : not x ≡ true → false ≡ crosses t u
  unfolding crosses
  cross-not-pq h = rw (← d, not-true x h)

  module _ (h : not x ≡ false) (y : Bool) (e : y ≡ some_left t.q t.r u) where
    pub cross-not-qr : not y ≡ true → false ≡ crosses t u
    unfolding crosses
    cross-not-qr k = rw (← d, not-false x h, ← e, not-true y k)

    pub cross-all : not y ≡ false → (z : Bool) → z ≡ some_left t.r t.p u → z ≡ crosses t u
    unfolding crosses
    cross-all k z f = rw (← d, not-false x h, ← e, not-false y k) f

-- ---- a row with its places

pub corner-made : (nodes : List ℤ) (k : ℕ) (a : Place) → a ≡ place_at nodes k → ◌≡◌ {A = Corner} (record { node = k; place = a }) (corner_by (place_at nodes) k)
corner-made nodes k a e = λ i. record { node = k; place = e i }

pub seen-made : (nodes : List ℤ) (w : Tri) (a b c : Corner) → a ≡ corner_by (place_at nodes) w.p → b ≡ corner_by (place_at nodes) w.q → c ≡ corner_by (place_at nodes) w.r →
    ◌≡◌ {A = Seen} (record { p = a; q = b; r = c }) (seen_by (place_at nodes) w)
unfolding seen_by
seen-made nodes w a b c d e f = λ i. record { p = d i; q = e i; r = f i }

-- ---- two rows

module _ (t u : Seen) where
  pub seen-meets : (x y : Bool) → x ≡ meets t u → y ≡ meets u t → x || y ≡ true → 2 ≡ grave_seen t u
  unfolding grave_seen
  seen-meets x y a b h = rw (← a, ← b, h)

  module _ (x y : Bool) (a : x ≡ meets t u) (b : y ≡ meets u t) (h : x || y ≡ false) (v : Bool) (c : v ≡ crosses t u) where
    pub seen-parted : not v ≡ true → 0 ≡ grave_seen t u
    unfolding grave_seen
    seen-parted k = rw (← a, ← b, h, ← c, not-true v k)

    module _ (k : not v ≡ false) (w : Bool) (d : w ≡ crosses u t) where
      pub seen-parted-back : not w ≡ true → 0 ≡ grave_seen t u
      unfolding grave_seen
      seen-parted-back l = rw (← a, ← b, h, ← c, not-false v k, ← d, not-true w l)

      pub seen-sharing : not w ≡ false → 1 ≡ grave_seen t u
      unfolding grave_seen
      seen-sharing l = rw (← a, ← b, h, ← c, not-false v k, ← d, not-false w l)
