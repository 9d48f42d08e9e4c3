-- Laws of single steps, which the check finds alone today, or by newer laws. Assumes nothing.
use Rattle.std.specs.Prelude.{◌≡◌, refl, Bool, true, false, not, ◌&&◌, List, ℕ, ◌+◌, ◌-◌, ◌*◌, ◌≤◌, ◌<◌, length, get_or, ℤ, Some, None, is_some, take, drop, replicate, ◌++◌}
use Rattle.std.proofs.Common.{sym, subst, ◌∙◌, arith, ext_get_or}
use Rattle.std.proofs.lemmas.Grind.{common_steps}
use borrow.Author.Tests.{not-true, not-false, ltb-true, ltb-false}
use Rattle.std.proofs.Math.Dec.{ltb}
use Rattle.lists.specs.Search.{lowest}
use Rattle.lists.specs.Loops.{down, noted}
use Rattle.lists.specs.LoopsLaw.{noted-length, noted-at, noted-below, noted-above}
use Rattle.lists.specs.ChainLaw.{ahead}
use Rattle.meaning.specs.Good.{span, G1, G2, G3, G4}
use Rattle.laws.specs.Meshes.{mesh_at, rows_alone}
use Rattle.round.specs.declared.Ends.{Ends}
use Rattle.round.specs.Pair.{edge_of}
use Rattle.good.specs.Sign.{pair_no, sign_on, sign_of}
use Rattle.good.specs.SignLaw as Sign
use Rattle.good.specs.Rival.{numbers_at, rivals, tagged, Tags, Linked, blanked, link_node}
use Rattle.good.specs.WalkLaw as Walking
use Rattle.good.specs.WalkLaw.{Walk}

-- ---- a node's number

module _ (nodes : List ℤ) (rows : List ℕ) (n t z : ℕ) where
  pub sign-not-1 : (b : Bool) → b ≡ G1 (rows_alone rows t) z → not b ≡ true → 0 ≡ sign_of (mesh_at nodes rows n t) z
  sign-not-1 b e h = Sign.sign-not-1 nodes rows n t z b e (not-true b h)

  pub sign-not-2 : (b : Bool) → b ≡ G2 (rows_alone rows t) z → not b ≡ true → 0 ≡ sign_of (mesh_at nodes rows n t) z
  sign-not-2 b e h = Sign.sign-not-2 nodes rows n t z b e (not-true b h)

  module _ (a b : Bool) (ga : a ≡ G1 (rows_alone rows t) z) (ha : not a ≡ false) (gb : b ≡ G2 (rows_alone rows t) z) (hb : not b ≡ false) where
    pub sign-all : (r : ℕ) → r ≡ sign_on (mesh_at nodes rows n t) z → r ≡ sign_of (mesh_at nodes rows n t) z
    sign-all r g = Sign.sign-all nodes rows n t z a b ga (not-false a ha) gb (not-false b hb) r g

  module _ (e : Ends) (ge : edge_of e ≡ span (rows_alone rows t) z) (c d : Bool) (gc : c ≡ G3 (mesh_at nodes rows n t) z) (gd : d ≡ G4 (rows_alone rows t) z) where
    pub sign-yes : (r : ℕ) → c && d ≡ true → r ≡ pair_no (edge_of e) → r ≡ sign_on (mesh_at nodes rows n t) z
    sign-yes r h g = go c d gc gd h
      where
        go : (c d : Bool) → c ≡ G3 (mesh_at nodes rows n t) z → d ≡ G4 (rows_alone rows t) z → c && d ≡ true → r ≡ sign_on (mesh_at nodes rows n t) z
        go true d gc gd h = Sign.sign-yes nodes rows n t z true d gc gd refl e ge r h g
        go false d gc gd h = cc

    pub sign-no : c && d ≡ false → 0 ≡ sign_on (mesh_at nodes rows n t) z
    sign-no h = go c d gc gd h
      where
        go : (c d : Bool) → c ≡ G3 (mesh_at nodes rows n t) z → d ≡ G4 (rows_alone rows t) z → c && d ≡ false → 0 ≡ sign_on (mesh_at nodes rows n t) z
        go true d gc gd h = Sign.sign-not-4 nodes rows n t z true d gc gd refl h
        go false d gc gd h = Sign.sign-not-3 nodes rows n t z false gc refl

pub came : (b x : Bool) → b ≡ x → not b ≡ false → x ≡ true
came b x e h = sym e ∙ not-false b h

-- ---- all nodes linked: s₁ has the numbers, s₂ blank heads, s₃ the links

abbrev pub blank : ℕ → ℕ
blank i = 0

module _ (o t : ℕ) (s : List ℕ) (h : o + t ≤ length s) where
  blanks-long : length (take o s ++ (replicate t 0 ++ drop (o + t) s)) ≡ length s
  blanks-long = grind (arith, common_steps)

  blanks-below : (k : ℕ) → k < o → get_or (take o s ++ (replicate t 0 ++ drop (o + t) s)) k 0 ≡ get_or s k 0
  blanks-below k l = grind (arith, common_steps)

  blanks-at : (j : ℕ) → j < t → get_or (take o s ++ (replicate t 0 ++ drop (o + t) s)) (o + j) 0 ≡ 0
  blanks-at j l = grind (arith, common_steps)

  blanks-above : (k : ℕ) → o + t ≤ k → get_or (take o s ++ (replicate t 0 ++ drop (o + t) s)) k 0 ≡ get_or s k 0
  blanks-above k l = grind (arith, common_steps)

  blanks-are : noted o blank t s ≡ blanked o t s
  unfolding blanked
  blanks-are =
      ext_get_or 0 (noted o blank t s) (take o s ++ (replicate t 0 ++ drop (o + t) s)) (noted-length o blank t s ∙ sym blanks-long)
      (λ k l. each k (ltb k o) (ltb k (o + t)) refl refl)
    where
      each : (k : ℕ) (a b : Bool) → ltb k o ≡ a → ltb k (o + t) ≡ b → get_or (noted o blank t s) k 0 ≡ get_or (take o s ++ (replicate t 0 ++ drop (o + t) s)) k 0
      each k true b p q = noted-below o blank t s k 0 (ltb-true k o p) ∙ sym (blanks-below k (ltb-true k o p))
      each k false true p q =
          let e : o + (k - o) ≡ k = omega (arith, ltb-false k o p) in
          let m : k - o < t = omega (arith, ltb-false k o p, ltb-true k (o + t) q) in
          rw e at (noted-at o blank t s (k - o) 0 m h ∙ sym (blanks-at (k - o) m))
      each k false false p q = noted-above o blank t s k 0 (ltb-false k (o + t) q) ∙ sym (blanks-above k (ltb-false k (o + t) q))

module _ (nc n t : ℕ) (room : n ≤ nc) (s₁ s₂ s₃ : List ℕ) (u : 2 * nc + t ≤ length s₁) (some : 0 < n → 0 < t) (e₂ : s₂ ≡ noted (2 * nc) blank t s₁)
    (e₃ : s₃ ≡ down (link_node nc t) n s₂) where
  pub nodes-linked : Linked s₃ nc n t
  nodes-linked = Walking.nodes-linked nc n t room s₁ s₂ s₃ u some (e₂ ∙ blanks-are (2 * nc) t s₁ u) e₃

-- and all nodes tagged
pub all-tagged : (nc n t : ℕ) → n ≤ nc → (s₁ s₂ s₃ s₄ : List ℕ) → 2 * nc + t ≤ length s₁ → (0 < n → 0 < t) → s₂ ≡ noted (2 * nc) blank t s₁ → s₃ ≡ down (link_node nc t) n s₂ →
    s₄ ≡ noted nc (tagged (numbers_at s₃ nc) n) n s₃ → Tags s₁ s₄ nc n
all-tagged nc n t room s₁ s₂ s₃ s₄ u some e₂ e₃ e₄ = Walking.all-tagged nc n t room s₁ s₂ s₃ s₄ u some (e₂ ∙ blanks-are (2 * nc) t s₁ u) e₃ e₄

-- ---- the walk for a rival of z stands at node k - 1

module _ (s : List ℕ) (nc n t z : ℕ) (d : Linked s nc n t) (l : z < n) (os : numbers_at s nc z ≡ 0 → ⊥) (some : 0 < t) where
  stands : (k y : ℕ) → (k ≡ 0 → ⊥) → y ≡ k - 1 → k ≡ y + 1
  stands k y o e = omega arith

  pub walk-note : (k y : ℕ) → (k ≡ 0 → ⊥) → y ≡ k - 1 → Walk s nc n t z k → nc + y < length s
  walk-note k y o e w = Walking.walk-note s nc n t z d l os some (Some y) y refl (subst (λ (x : ℕ). Walk s nc n t z x) (stands k y o e) w)

  pub walk-next : (k y : ℕ) → (k ≡ 0 → ⊥) → y ≡ k - 1 → Walk s nc n t z k → y < length s
  walk-next k y o e w = let a = walk-note k y o e w in omega arith

  module _ (k y : ℕ) (r : Bool) (o : k ≡ 0 → ⊥) (q : y ≡ k - 1) (w : Walk s nc n t z k) (e : r ≡ rivals (numbers_at s nc) z y) where
    there : Walk s nc n t z (y + 1)
    there = subst (λ (x : ℕ). Walk s nc n t z x) (stands k y o q) w

    pub walk-hit : r ≡ true → true ≡ is_some (lowest (rivals (numbers_at s nc) z) 0 n)
    walk-hit x = Walking.walk-hit s nc n t z d l os some (Some y) y refl there r e x

    pub walk-on : (k' : ℕ) → r ≡ false → k' ≡ get_or s y 0 → Walk s nc n t z k'
    walk-on k' x g = Walking.walk-on s nc n t z d l os some (Some y) y refl there r e k' x g

    pub walk-less : (k' : ℕ) → r ≡ false → k' ≡ get_or s y 0 → ahead n k' < ahead n k
    walk-less k' x g =
        subst (λ (v : ℕ). ahead n k' < ahead n v) (sym (stands k y o q)) (Walking.walk-less s nc n t z d l os some (Some y) y refl there r e k' x g)

  pub walk-over : (k : ℕ) → k ≡ 0 → Walk s nc n t z k → false ≡ is_some (lowest (rivals (numbers_at s nc) z) 0 n)
  walk-over k e w = Walking.walk-over s nc n t z d l os some None refl (subst (λ (x : ℕ). Walk s nc n t z x) e w)
