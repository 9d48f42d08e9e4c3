-- W7: the mesh in the tables: what the sweep of its rows gives is its severity. Assumes nothing.
use Rattle.std.specs.Prelude.{List, ◌≡◌, refl, ℕ, ◌+◌, ◌*◌, ◌≤◌, ◌<◌, ℤ, length}
use Rattle.std.proofs.Common.{sym, ◌∙◌, arith}
use Rattle.lists.specs.Lists.{nil, cons}
use Rattle.lists.specs.IterLaw.{length-items, get_or-items}
use Rattle.meaning.specs.declared.Place.{Place}
use Rattle.meaning.specs.declared.Tri.{Tri}
use Rattle.meaning.specs.Mesh.{Mesh, tri, at}
use Rattle.meaning.specs.Lawful.{Lawful, row_of}
use Rattle.meaning.specs.Tables.{place_at, row_at}
use Rattle.laws.specs.Meshes.{mesh_at, place_is, row_named}
use Rattle.pairs.specs.Pair.{grave}
use Rattle.pairs.specs.Sound.{row-sound}
use Rattle.pairs.specs.Seen.{seen_by}
use Rattle.pairs.specs.SeenLaw.{seen_same}
use Rattle.columns.specs.declared.Scale.{Scale}
use Rattle.columns.specs.Columns.{Ordered}
use Rattle.sweep.specs.Boxes.{Solid}
use Rattle.sweep.specs.Severity.{severity, grave_of, SomeTwo, none, two, Gravest}
use Rattle.sweep.specs.Gravest.{gravest-is}
use Rattle.sweep.specs.Sweep.{swept}
use Rattle.sweep.specs.Lined.{Lined}
use Rattle.sweep.specs.Swept.{swept-most, swept-met}

-- the corners of a row are at the same places
record Agreeing (P Q : ℕ → Place) (t : Tri) : Type 0 where
  at_p : P t.p ≡ Q t.p
  at-q : P t.q ≡ Q t.q
  at-r : P t.r ≡ Q t.r

seen-agrees : (P Q : ℕ → Place) (t : Tri) → Agreeing P Q t → seen_by P t ≡ seen_by Q t
unfolding seen_by
seen-agrees P Q t h = rw (h.at_p, h.at-q, h.at-r)

grave-agrees : (P Q : ℕ → Place) (t u : Tri) → Agreeing P Q t → Agreeing P Q u → grave P t u ≡ grave Q t u
grave-agrees P Q t u h k = sym (seen_same P t u) ∙ rw (seen-agrees P Q t h, seen-agrees P Q u k) (seen_same Q t u)

module _ (nodes : List ℤ) (rows : List ℕ) (n t : ℕ) (law : Lawful (mesh_at nodes rows n t)) where
  abbrev m : Mesh
  m = mesh_at nodes rows n t

  agreeing : (i : ℕ) → i < t → Agreeing (at m) (place_at nodes) (row_at rows i)
  agreeing i h =
      let N = row_named nodes rows n t law i h in
      record { at_p = place_is nodes rows n t _ N.p-below; at-q = place_is nodes rows n t _ N.q-below; at-r = place_is nodes rows n t _ N.r-below }

  count-rows : length m.tris ≡ t
  unfolding mesh_at
  count-rows = length-items (row_at rows) t

  row_is : (i : ℕ) → i < t → row_of m.tris i ≡ row_at rows i
  unfolding mesh_at
  row_is i h = get_or-items (row_at rows) t i (tri 0 0 0) h

  grave-is : (i j : ℕ) → i < t → j < t → grave_of m i j ≡ grave (place_at nodes) (row_at rows i) (row_at rows j)
  grave-is i j a b = rw (row_is i a, row_is j b) (grave-agrees (at m) (place_at nodes) (row_at rows i) (row_at rows j) (agreeing i a) (agreeing j b))

  solid : 4 * n ≤ length nodes → (i : ℕ) → i < t → Solid (place_at nodes) (row_at rows i)
  solid fit i h =
      let S = row-sound nodes rows n t law fit i h in
      record {
        ranges = cons S.stands.at_p.range.place_in (cons S.stands.at-q.range.place_in (cons S.stands.at-r.range.place_in nil));
        area-above = S.above;
      }

  module _ (fit : 4 * n ≤ length nodes) (s : Scale) (scratch : List ℕ) (o : Ordered s (place_at nodes) rows scratch t) (wide : 0 < s.width) (some : 0 < s.count) where
    gravest : Gravest m (swept s (place_at nodes) rows scratch t)
    gravest = record {
      most = λ i j l h.
          (let b : j < t = rw count-rows at h in
          rw (grave-is i j (omega arith) b) (swept-most s (place_at nodes) rows scratch t o some wide (solid fit) i j (omega arith) b (omega arith)));
      met = go (swept-met s (place_at nodes) rows scratch t o some);
    }
      where
        go : {r : ℕ} → SomeTwo (λ i j. grave (place_at nodes) (row_at rows i) (row_at rows j)) t r → SomeTwo (grave_of m) (length m.tris) r
        go (none e) = none e
        go (two i j a b n e) = two i j (rw count-rows a) (rw count-rows b) n (grave-is i j a b ∙ e)

    -- THE SWEEP GIVES THE SEVERITY
    pub swept-is : swept s (place_at nodes) rows scratch t ≡ severity m
    swept-is = gravest-is m law (swept s (place_at nodes) rows scratch t) gravest

  -- ---- in the form of the needs of code

  -- no rows, nothing grave
  pub severity-none : t ≡ 0 → 0 ≡ severity m
  severity-none z = gravest-is m law 0 (record { most = λ i j l h. (let e = count-rows in absurd (omega arith)); met = none refl })

  pub some-node : (t ≡ 0 → ⊥) → 0 < n
  some-node some = let N = row_named nodes rows n t law 0 (omega arith) in omega (arith, N.p-below)

  pub some-column : (t ≡ 0 → ⊥) → (c : ℕ) → c ≡ n → 0 < c
  some-column some c e = rw e (some-node some)

  module _ (fit : 4 * n ≤ length nodes) (s : Scale) (count : s.count ≡ n) (wide : 0 < s.width) (some : t ≡ 0 → ⊥) (scratch : List ℕ) (o : Ordered s (place_at nodes) rows scratch t) where
    pub all-lined : 3 * t ≤ length rows → (len : ℕ) → n + 3 * t ≤ len → length scratch ≡ len → Lined s nodes rows scratch t
    all-lined room len places long = record {
      ordered = o;
      wide = wide;
      some = some-column some s.count count;
      places = rw (count, long) places;
      room = room;
      sound = row-sound nodes rows n t law fit;
    }

    pub severity-swept : (r : ℕ) → r ≡ swept s (place_at nodes) rows scratch t → r ≡ severity m
    severity-swept r e = e ∙ swept-is fit s scratch o wide (some-column some s.count count)
