-- Keys and sums of turns fit, and what is read of an arrow is what Seen.antt says. Assumes nothing.
use Rattle.std.specs.Prelude.{List, ◌≡◌, refl, ℕ, ◌+◌, ◌*◌, ℤ, pos, ◌+ℤ◌, ◌*ℤ◌, get_or}
use Rattle.std.proofs.Common.{sym, ap, ◌∙◌, le_refl, SFits, to_z, of_z, to_z-of_z}
use Rattle.std.proofs.Math.Path.{subst}
use Rattle.std.specs.Int.Signed.{lt_z}
use Rattle.std.specs.Int.{w32, w64}
use Rattle.whole.specs.Bound.{abs-add, abs-mul, fits-abs}
use Rattle.plane.specs.Wide.{wide-abs}
use Rattle.meaning.specs.declared.Place.{Place}
use Rattle.meaning.specs.Mesh.{turn}
use Rattle.meaning.specs.Lawful.{InRange}
use Rattle.meaning.specs.Tables.{place_at}
use Rattle.laws.specs.Meshes.{Stands}
use Rattle.border.specs.Keys.{turn_small, key-small}
use Rattle.outline.specs.declared.End.{End}
use Rattle.outline.specs.declared.Edge.{Edge}
use Rattle.outline.specs.Seen.{end_by, edge_by, arrow_in, edge_in, Near, Close, EndsStand}

-- ---- what fits

pub key-times : (x : ℤ) → SFits w32 x → SFits w64 (pos 8_388_608 *ℤ x)
key-times x f = fits-abs w64 (abs-mul (pos 8_388_608) x (le_refl 8_388_608) (wide-abs x f)) tt

pub key_fits : (x y : ℤ) → SFits w32 x → SFits w32 y → SFits w64 (pos 8_388_608 *ℤ x +ℤ y)
key_fits x y f g = fits-abs w64 (abs-add (pos 8_388_608 *ℤ x) y (abs-mul (pos 8_388_608) x (le_refl 8_388_608) (wide-abs x f)) (wide-abs y g)) tt

pub turns_fit : (a b c d : Place) → InRange a → InRange b → InRange c → InRange d → SFits w64 (turn a b c +ℤ turn a b d)
turns_fit a b c d f g h i = fits-abs w64 (abs-add (turn a b c) (turn a b d) (turn_small f g h) (turn_small f g i)) tt

-- a sum of two turns, in the form of needs
pub sum-above : (x y u v : ℤ) → x ≡ u → y ≡ v → SFits w64 (u +ℤ v) → lt_z (pos 0) (to_z w64 (of_z w64 (x +ℤ y))) ≡ lt_z (pos 0) (u +ℤ v)
sum-above x y u v e f h = rw (e, f, to_z-of_z h)

-- ---- an arrow of those in scratch

module _ (nodes : List ℤ) (s : List ℕ) (j v : ℕ) (h : EndsStand nodes (arrow_in s j)) where
  pub stands_from : v ≡ get_or s (2 * j) 0 → Stands nodes v
  unfolding arrow_in
  stands_from e = subst (Stands nodes) (sym e) h.from-stands

  pub stands-to : v ≡ get_or s (2 * j + 1) 0 → Stands nodes v
  unfolding arrow_in
  stands-to e = subst (Stands nodes) (sym e) h.to-stands

pub edge-made : (P : ℕ → Place) (s : List ℕ) (j v w : ℕ) (a b : End) → v ≡ get_or s (2 * j) 0 → w ≡ get_or s (2 * j + 1) 0 → a ≡ end_by P v → b ≡ end_by P w →
    ◌≡◌ {A = Edge} (record { from = a; to = b }) (edge_in P s j)
unfolding edge_in edge_by arrow_in
edge-made P s j v w a b e f g h = λ i. record { from = (g ∙ ap (end_by P) e) i; to = (h ∙ ap (end_by P) f) i }

near_by : (nodes : List ℤ) (k : ℕ) → Stands nodes k → Near (end_by (place_at nodes) k)
near_by nodes k h = record { near = h.range.place_in; keyed = refl; key-near = key-small h.range.place_in }

pub close-in : (nodes : List ℤ) (s : List ℕ) (j : ℕ) (e : Edge) → e ≡ edge_in (place_at nodes) s j → EndsStand nodes (arrow_in s j) → Close e
unfolding edge_in edge_by
close-in nodes s j e q h = subst Close (sym q) (record { from-near = near_by nodes (arrow_in s j).from h.from-stands; to-near = near_by nodes (arrow_in s j).to h.to-stands })
