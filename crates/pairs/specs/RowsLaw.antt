-- The steps of the answer on the rows i and j of a table, in the form of their needs. Assumes nothing.
use Rattle.std.specs.Prelude.{Bool, true, List, ◌≡◌, ℕ, ℤ}
use Rattle.std.proofs.Math.Path.{sym}
use Rattle.std.proofs.Common.{subst, ◌∙◌, eq-eqb, ne_eqb}
use Rattle.meaning.specs.declared.Place.{Place}
use Rattle.meaning.specs.declared.Tri.{Tri}
use Rattle.meaning.specs.Tables.{place_at, row_at}
use Rattle.laws.specs.Meshes.{Standing}
use Rattle.pairs.specs.declared.Seen.{Seen}
use Rattle.pairs.specs.Pair.{grave_at}
use Rattle.pairs.specs.Seen.{seen_by, Near, clean, grave_seen}
use Rattle.pairs.specs.SeenLaw.{near-seen, seen_same}
use Rattle.pairs.specs.CleanLaw.{clean-none, cleaned-none}
use Rattle.pairs.specs.Sound.{Sound}

module _ (nodes : List ℤ) (rows : List ℕ) (i : ℕ) (s : Sound nodes (row_at rows i)) (w : Tri) (e : w ≡ row_at rows i) where
  pub stands_read : Standing nodes w
  stands_read = subst (Standing nodes) (sym e) s.stands

  pub near-read : (t : Seen) → t ≡ seen_by (place_at nodes) w → Near t
  near-read t h = near-seen nodes w t h stands_read

module _ (nodes : List ℤ) (rows : List ℕ) (i j : ℕ) where
  abbrev P : ℕ → Place
  P = place_at nodes

  pub grave-itself : i ≡ j → 0 ≡ grave_at P rows i j
  unfolding grave_at
  grave-itself e = rw (eq-eqb i j e)

  -- v and w are the rows as read, t and u as seen
  module _ (n : i ≡ j → ⊥) (v w : Tri) (c : v ≡ row_at rows i) (d : w ≡ row_at rows j) (t u : Seen) (a : t ≡ seen_by P v) (b : u ≡ seen_by P w) where
    seen-row : t ≡ seen_by P (row_at rows i)
    seen-row = a ∙ (λ k. seen_by P (c k))

    seen_other : u ≡ seen_by P (row_at rows j)
    seen_other = b ∙ (λ k. seen_by P (d k))

    pub grave-two : (x : ℕ) → x ≡ grave_seen t u → x ≡ grave_at P rows i j
    unfolding grave_at
    grave-two x e = rw (ne_eqb i j n) (e ∙ (λ k. grave_seen (seen-row k) (seen_other k)) ∙ seen_same P (row_at rows i) (row_at rows j))

    module _ (s : Sound nodes (row_at rows i)) (r : Sound nodes (row_at rows j)) (x : Bool) where
      pub grave-clean : x ≡ clean t u → x ≡ true → 0 ≡ grave_at P rows i j
      unfolding grave_at
      grave-clean e h = rw (ne_eqb i j n) (sym (clean-none P (row_at rows i) (row_at rows j) s.above r.above ((λ k. clean (sym seen-row k) (sym seen_other k)) ∙ sym e ∙ h)))

      pub grave-cleaned : x ≡ clean u t → x ≡ true → 0 ≡ grave_at P rows i j
      unfolding grave_at
      grave-cleaned e h = rw (ne_eqb i j n) (sym (cleaned-none P (row_at rows i) (row_at rows j) s.above r.above ((λ k. clean (sym seen_other k) (sym seen-row k)) ∙ sym e ∙ h)))
