-- The test for 12, 18 signs of `turn`: it says yes exactly if two triangles are apart, and no exactly if they share an interior point. Assumes nothing.
use Rattle.std.specs.Prelude.{Bool, true, false, ◌&&◌, ◌⊎◌, ◌↔◌, ◌≡◌, pos, ◌<ℤ◌}
use Rattle.std.proofs.Common.{inl, inr, sym, ◌∙◌}
use Rattle.std.specs.Int.Signed.{le_z}
use Rattle.lists.specs.ListsLaw.{clash, and_both, and_left, and_right}
use Rattle.whole.specs.Tests.{le_z-true, le-le_z}
use Rattle.meaning.specs.declared.Place.{Place}
use Rattle.meaning.specs.Mesh.{turn}
use Rattle.meaning.specs.Proper.{Shape, area, Share, none_left, parted_by, apart}
use Rattle.laws.specs.Exact.{refuted, either-exact}
use Rattle.proper.specs.Apart.{NoneLeft, PartedBy, by-pq, by-qr, by-rp, Apart, by_first, by-second}
use Rattle.proper.specs.Sharing.{apart-or-share, apart-not-share}

none_left-exact : (a b : Place) (t : Shape) → (none_left a b t ≡ true) ↔ NoneLeft a b t
unfolding none_left
none_left-exact a b t = (to, λ h. and_both (and_both (le-le_z _ _ h.at_p) (le-le_z _ _ h.at-q)) (le-le_z _ _ h.at-r))
  where
    sign : Place → Bool
    sign c = le_z (turn a b c) (pos 0)

    to : sign t.p && sign t.q && sign t.r ≡ true → NoneLeft a b t
    to e =
        let pq = and_left (sign t.p && sign t.q) (sign t.r) e in
        record {
          at_p = le_z-true (turn a b t.p) (pos 0) (and_left (sign t.p) (sign t.q) pq);
          at-q = le_z-true (turn a b t.q) (pos 0) (and_right (sign t.p) (sign t.q) pq);
          at-r = le_z-true (turn a b t.r) (pos 0) (and_right (sign t.p && sign t.q) (sign t.r) e);
        }

parted_by-exact : (s t : Shape) → (parted_by s t ≡ true) ↔ PartedBy s t
unfolding parted_by
parted_by-exact s t =
    let h = either-exact _ _ (either-exact _ _ (none_left-exact s.p s.q t) (none_left-exact s.q s.r t)) (none_left-exact s.r s.p t) in
    (λ e. to (h.0 e), λ p. h.1 (from p))
  where
    to : (NoneLeft s.p s.q t ⊎ NoneLeft s.q s.r t) ⊎ NoneLeft s.r s.p t → PartedBy s t
    to (inl (inl h)) = by-pq h
    to (inl (inr h)) = by-qr h
    to (inr h) = by-rp h

    from : PartedBy s t → (NoneLeft s.p s.q t ⊎ NoneLeft s.q s.r t) ⊎ NoneLeft s.r s.p t
    from (by-pq h) = inl (inl h)
    from (by-qr h) = inl (inr h)
    from (by-rp h) = inr h

-- THE TEST SAYS YES EXACTLY IF TWO TRIANGLES ARE APART,
pub apart-exact : (s t : Shape) → (apart s t ≡ true) ↔ Apart s t
unfolding apart
apart-exact s t = let h = either-exact _ _ (parted_by-exact s t) (parted_by-exact t s) in (λ e. to (h.0 e), λ p. h.1 (from p))
  where
    to : PartedBy s t ⊎ PartedBy t s → Apart s t
    to (inl h) = by_first h
    to (inr h) = by-second h

    from : Apart s t → PartedBy s t ⊎ PartedBy t s
    from (by_first h) = inl h
    from (by-second h) = inr h

-- AND NO EXACTLY IF TWO TRIANGLES OF AREA ABOVE 0 SHARE AN INTERIOR POINT
pub share-exact : (s t : Shape) → pos 0 <ℤ area s → pos 0 <ℤ area t → (apart s t ≡ false) ↔ Share s t
share-exact s t h i = (λ e. to e (apart-or-share s t h i), λ g. refuted (apart s t) (λ e. apart-not-share s t h i ((apart-exact s t).0 e) g))
  where
    to : apart s t ≡ false → Apart s t ⊎ Share s t → Share s t
    to e (inl a) = clash (sym ((apart-exact s t).1 a) ∙ e)
    to e (inr g) = g
