-- Numbers noted in scratch: the nodes are linked by them, a walk along one chain finds a rival where there is one, and tags say where
-- there is none. In the form of needs. Assumes nothing.
use Rattle.std.specs.Prelude.{◌≡◌, Bool, not, List, ℕ, suc, ◌+◌, ◌-◌, ◌*◌, ◌/◌, ◌%◌, ◌≤◌, ◌<◌, eqb, length, set, take, drop, replicate, ◌++◌, Option, Some, None, is_some}
use Rattle.std.proofs.Math.Path.{refl, ap}
use Rattle.std.proofs.Common.{sym, subst, ◌∙◌, arith, mod-lt}
use Rattle.std.proofs.Math.Bool.{true, false}
use borrow.Author.Tests.{eqb-true, eq-eqb, ne_eqb, ltb-true, ltb-false}
use Rattle.std.proofs.Math.Dec.{ltb}
use Rattle.std.proofs.Math.ListN.{get_or}
use borrow.Rule.Slice.PartMut.{put_mid, mid_of, mid_len, Post-is}
use Rattle.std.proofs.lemmas.Grind.{common_steps}
use Rattle.lists.specs.Lists.{cases}
use Rattle.lists.specs.ListsLaw.{and_left}
use Rattle.lists.specs.Tally.{bit}
use Rattle.lists.specs.Search.{lowest}
use Rattle.lists.specs.SearchLaw.{lowest-some, lowest-agree}
use Rattle.lists.specs.Loops.{code, down, noted}
use Rattle.lists.specs.LoopsLaw.{down-makes, noted-turn, noted-length, noted-at, noted-below, noted-above}
use Rattle.lists.specs.ChainLaw.{Chain, linked, linked-length, linked-other, chain-start, chain-skip, chain_link, chain-kept, On, over, at, on-start, on-next, ahead, ahead-less}
use Rattle.good.specs.Rival.{numbers_at, rivals, lone, tagged, Tags, key_of, same_key, Linked, blanked, link_node}

-- ---- where there is a node, t is above 0

module _ (n z t : ℕ) (some : 0 < n → 0 < t) where
  pub some_up : z < n → 0 < t
  some_up h = some (omega arith)

  pub some-down : 0 < z → z ≤ n → 0 < t
  some-down h k = some (omega arith)

-- ---- heads made blank

module _ (o t : ℕ) (s : List ℕ) where
  pub blanked-made : (ys : List ℕ) → o + t ≤ length s → ys ≡ replicate (length (mid_of o (o + t - o) s)) 0 → put_mid o (o + t - o) s ys ≡ blanked o t s
  unfolding blanked
  blanked-made ys h e =
      let q : o + t - o ≡ t = omega arith in
      ap (λ (l : List ℕ). take o s ++ (ys ++ l)) (Post-is o (o + t) s (omega arith))
      ∙ ap (λ (l : List ℕ). take o s ++ (l ++ drop (o + t) s)) (e ∙ ap (λ (k : ℕ). replicate k 0) (mid_len o (o + t) s h ∙ q))

  blanked-length : o + t ≤ length s → length (blanked o t s) ≡ length s
  unfolding blanked
  blanked-length h = grind (arith, common_steps)

  blanked-at : (k : ℕ) → o + t ≤ length s → k < t → get_or (blanked o t s) (o + k) 0 ≡ 0
  unfolding blanked
  blanked-at k h l = grind (arith, common_steps)

  blanked-below : (x : ℕ) → o + t ≤ length s → x < o → get_or (blanked o t s) x 0 ≡ get_or s x 0
  unfolding blanked
  blanked-below x h l = grind (arith, common_steps)

-- ---- one node linked

pub link-not : (v nc t z : ℕ) (s : List ℕ) → v ≡ numbers_at s nc z → v ≡ 0 → s ≡ link_node nc t z s
unfolding link_node
link-not v nc t z s e h = rw (← e, h)

pub link-it : (v b nc t z : ℕ) (s s' : List ℕ) → v ≡ numbers_at s nc z → (v ≡ 0 → ⊥) → b ≡ v % t → s' ≡ linked (2 * nc + b) z z s → s' ≡ link_node nc t z s
unfolding link_node
link-it v b nc t z s s' e h f g = g ∙ rw (← e, ne_eqb v 0 h, ← f)

-- ---- all nodes linked: s₁ has the numbers, s₂ blank heads, s₃ the links

module _ (nc n t : ℕ) (room : n ≤ nc) where
  record Linking (s₀ : List ℕ) (i : ℕ) (s : List ℕ) : Type 0 where
    chain : Chain (λ z. key_of t (numbers_at s₀ nc z)) t (2 * nc) 0 n i s
    long : length s ≡ length s₀
    between : (z : ℕ) → z < n → get_or s (nc + z) 0 ≡ get_or s₀ (nc + z) 0

  link-turn : (s₀ : List ℕ) (i : ℕ) (s : List ℕ) → 2 * nc + t ≤ length s₀ → 0 < t → i < n → Linking s₀ (suc i) s → Linking s₀ i (link_node nc t i s)
  unfolding link_node
  link-turn s₀ i s u some h l = go (eqb (numbers_at s nc i) 0) refl
    where
      same : numbers_at s nc i ≡ numbers_at s₀ nc i
      same = ap (λ (x : ℕ). x / 2) (l.between i h)

      go : (b : Bool) → eqb (numbers_at s nc i) 0 ≡ b → Linking s₀ i (cases b s (linked (2 * nc + numbers_at s nc i % t) i i s))
      go true e = record {
        chain = chain-skip (λ z. key_of t (numbers_at s₀ nc z)) t (2 * nc) 0 n i s h l.chain (rw (← same, e) (omega arith));
        long = l.long;
        between = l.between;
      }
      go false e =
          let k : key_of t (numbers_at s₀ nc i) ≡ numbers_at s nc i % t = rw (← same, e) in
          linked-in (numbers_at s nc i % t) k (mod-lt (numbers_at s nc i) some)
        where
          linked-in : (b : ℕ) → key_of t (numbers_at s₀ nc i) ≡ b → b < t → Linking s₀ i (linked (2 * nc + b) i i s)
          linked-in b k lt =
              let q = l.long in
              let z : 0 + i ≡ i = omega arith in
              let lt' : key_of t (numbers_at s₀ nc i) < t = rw k lt in
              record {
                chain =
                    rw (k, z) at
                    (chain_link (λ z. key_of t (numbers_at s₀ nc z)) t (2 * nc) 0 n i s h l.chain lt' (λ a j x y. omega arith) (omega arith) (omega arith));
                long = linked-length (2 * nc + b) i i s ∙ q;
                between = λ z w. (linked-other (2 * nc + b) i i s (nc + z) (omega arith) (omega arith) ∙ l.between z w);
              }

  module _ (s₁ s₂ s₃ : List ℕ) (u : 2 * nc + t ≤ length s₁) (some : 0 < n → 0 < t) (e₂ : s₂ ≡ blanked (2 * nc) t s₁) (e₃ : s₃ ≡ down (link_node nc t) n s₂) where
    long₂ : length s₂ ≡ length s₁
    long₂ = rw e₂ (blanked-length (2 * nc) t s₁ u)

    all-linked : Linking s₂ 0 s₃
    all-linked =
        subst (λ (r : List ℕ). Linking s₂ 0 r) (sym e₃)
        (down-makes (link_node nc t) (λ i r. Linking s₂ i r) n s₂ (λ i r h l. link-turn s₂ i r (let a = long₂ in omega arith) (some (omega arith)) h l)
        (record {
          chain = chain-start (λ z. key_of t (numbers_at s₂ nc z)) t (2 * nc) 0 n s₂ (λ k l. rw e₂ (blanked-at (2 * nc) t s₁ k u l));
          long = refl;
          between = λ z h. refl;
        }))

    numbers-kept : (z : ℕ) → z < n → numbers_at s₃ nc z ≡ numbers_at s₁ nc z
    numbers-kept z h =
        ap (λ (x : ℕ). x / 2) (all-linked.between z h ∙ rw e₂ (blanked-below (2 * nc) t s₁ (nc + z) u (omega arith)))

    pub nodes-linked : Linked s₃ nc n t
    nodes-linked = record {
      chain =
          chain-kept (λ z. key_of t (numbers_at s₂ nc z)) (λ z. key_of t (numbers_at s₃ nc z)) t (2 * nc) 0 n s₃ s₃
          (λ j l. ap (λ (x : ℕ). key_of t (x / 2)) (sym (all-linked.between j l))) (λ k l. refl) (λ j l. refl) all-linked.chain;
      room = room;
      long = (let a = all-linked.long in let b = long₂ in omega arith);
    }

-- ---- the walk

rivals-same_key : (t : ℕ) (sg : ℕ → ℕ) (z y : ℕ) → rivals sg z y ≡ true → same_key t sg z y ≡ true
rivals-same_key t sg z y e =
    let q = eqb-true (sg y) (sg z) (and_left (eqb (sg y) (sg z)) (not (eqb y z)) e) in
    eq-eqb (key_of t (sg y)) (key_of t (sg z)) (ap (key_of t) q)

-- the walk for a rival of z
abbrev pub Walk : List ℕ → ℕ → ℕ → ℕ → ℕ → ℕ → Type 0
Walk s nc n t z k = On (rivals (numbers_at s nc) z) (same_key t (numbers_at s nc) z) n k

module _ (s : List ℕ) (nc n t z : ℕ) (d : Linked s nc n t) (l : z < n) (os : numbers_at s nc z ≡ 0 → ⊥) (some : 0 < t) where
  key-is : key_of t (numbers_at s nc z) ≡ numbers_at s nc z % t
  key-is = rw (ne_eqb (numbers_at s nc z) 0 os)

  key_in : key_of t (numbers_at s nc z) < t
  key_in = rw key-is (mod-lt (numbers_at s nc z) some)

  pub walk_start : (v b k : ℕ) → v ≡ numbers_at s nc z → b ≡ v % t → k ≡ get_or s (2 * nc + b) 0 → Walk s nc n t z k
  walk_start v b k e f g =
      let q : b ≡ key_of t (numbers_at s nc z) = f ∙ ap (λ (x : ℕ). x % t) e ∙ sym key-is in
      let w : k ≡ code (lowest (same_key t (numbers_at s nc) z) 0 n) = g ∙ rw q (d.chain.heads (key_of t (numbers_at s nc z)) key_in) in
      rw w (on-start (rivals (numbers_at s nc) z) (same_key t (numbers_at s nc) z) n (rivals-same_key t (numbers_at s nc) z))

  walk-below : (k : ℕ) → (k ≡ 0 → ⊥) → Walk s nc n t z k → k - 1 < n
  walk-below k o (over e) = absurd (o refl)
  walk-below k o (at j h e f) = omega arith

  walk-met : (k : ℕ) (r : Bool) → (k ≡ 0 → ⊥) → Walk s nc n t z k → r ≡ rivals (numbers_at s nc) z (k - 1) → r ≡ true → true ≡ is_some (lowest (rivals (numbers_at s nc) z) 0 n)
  walk-met k r o (over x) e y = absurd (o refl)
  walk-met k r o (at j h x f) e y =
      let q : j + 1 - 1 ≡ j = omega arith in
      sym (lowest-some (rivals (numbers_at s nc) z) n j h ((rw q at (sym e)) ∙ y))

  walk-passed : (k k' : ℕ) (r : Bool) → (k ≡ 0 → ⊥) → Walk s nc n t z k → r ≡ rivals (numbers_at s nc) z (k - 1) → r ≡ false → k' ≡ get_or s (k - 1) 0 →
      (Walk s nc n t z k') × (ahead n k' < ahead n k)
  walk-passed k k' r o (over x) e y g = absurd (o refl)
  walk-passed k k' r o (at j h x f) e y g =
      let q : j + 1 - 1 ≡ j = omega arith in
      let q0 : 0 + j ≡ j = omega arith in
      let p : rivals (numbers_at s nc) z j ≡ false = (rw q at (sym e)) ∙ y in
      let same : key_of t (numbers_at s nc j) ≡ key_of t (numbers_at s nc z) = eqb-true (key_of t (numbers_at s nc j)) (key_of t (numbers_at s nc z)) x in
      let w : k' ≡ code (lowest (same_key t (numbers_at s nc) z) (j + 1) n) =
      (rw q at g) ∙ (rw (q0, same) at (d.chain.nexts j (omega arith) h (rw same key_in))) in (
        rw w (on-next (rivals (numbers_at s nc) z) (same_key t (numbers_at s nc) z) n (rivals-same_key t (numbers_at s nc) z) j h f p),
        rw w (nearer (omega arith) (ahead-less (same_key t (numbers_at s nc) z) n j h)),
      )
    where
      nearer : {a : ℕ} → j + 1 ≡ suc j → a < n - j → a < ahead n (j + 1)
      nearer {a} q b = subst (λ (x : ℕ). a < ahead n x) (sym q) b

  -- the walk stands at y
  module _ (k : Option ℕ) (y : ℕ) (e : k ≡ Some y) (w : Walk s nc n t z (code k)) where
    there : code k ≡ 0 → ⊥
    there h = let q : y + 1 ≡ 0 = rw e at h in omega arith

    here : y ≡ code k - 1
    here = rw e (omega arith)

    pub walk-note : nc + y < length s
    walk-note = let a = walk-below (code k) there w in let b = d.room in let u = d.long in let q = here in omega arith

    pub walk-next : y < length s
    walk-next = let a = walk-note in omega arith

    module _ (r : Bool) (f : r ≡ rivals (numbers_at s nc) z y) where
      pub walk-hit : r ≡ true → true ≡ is_some (lowest (rivals (numbers_at s nc) z) 0 n)
      walk-hit x = walk-met (code k) r there w (rw here at f) x

      pub walk-on : (k' : ℕ) → r ≡ false → k' ≡ get_or s y 0 → Walk s nc n t z k'
      walk-on k' x g = (walk-passed (code k) k' r there w (rw here at f) x (rw here at g)).0

      pub walk-less : (k' : ℕ) → r ≡ false → k' ≡ get_or s y 0 → ahead n k' < ahead n (code k)
      walk-less k' x g = (walk-passed (code k) k' r there w (rw here at f) x (rw here at g)).1

  walk-none : (k : ℕ) → k ≡ 0 → Walk s nc n t z k → false ≡ is_some (lowest (rivals (numbers_at s nc) z) 0 n)
  walk-none k e (over x) = sym (ap is_some x)
  walk-none k e (at j h x f) = absurd (omega arith)

  pub walk-over : (k : Option ℕ) → k ≡ None → Walk s nc n t z (code k) → false ≡ is_some (lowest (rivals (numbers_at s nc) z) 0 n)
  walk-over k e w = walk-none (code k) (ap code e) w

-- ---- tags

module _ (sg : ℕ → ℕ) (n z v : ℕ) (e : v ≡ sg z) where
  pub tag-none : v ≡ 0 → 0 ≡ tagged sg n z
  unfolding tagged
  tag-none q = rw (← e, q)

  module _ (o : v ≡ 0 → ⊥) (r : Bool) (f : r ≡ is_some (lowest (rivals sg z) 0 n)) where
    pub tag-rival : r ≡ true → 2 * v ≡ tagged sg n z
    unfolding tagged
    tag-rival q = rw (← f, q, ← e, ne_eqb v 0 o) (omega arith)

    pub tag-lone : r ≡ false → 2 * v + 1 ≡ tagged sg n z
    unfolding tagged
    tag-lone q = rw (← f, q, ← e, ne_eqb v 0 o) (omega arith)

pub tagged-agree : (f g : ℕ → ℕ) (n z : ℕ) → z < n → ((y : ℕ) → y < n → f y ≡ g y) → tagged f n z ≡ tagged g n z
unfolding tagged
tagged-agree f g n z h e =
    rw (lowest-agree (rivals f z) (rivals g z) n (λ y l. rw (e y l, e z h)), e z h)

half-tagged : (b : Bool) (k : ℕ) → (2 * k + bit b) / 2 ≡ k
half-tagged true k = omega arith
half-tagged false k = omega arith

-- while nodes are tagged, below z
module _ (s₀ s : List ℕ) (nc n t z : ℕ) (e : s ≡ noted nc (tagged (numbers_at s₀ nc) n) z s₀) (h : z < n) (d : Linked s₀ nc n t) where
  numbers-still : (y : ℕ) → y < n → numbers_at s nc y ≡ numbers_at s₀ nc y
  unfolding tagged
  numbers-still y l = go (ltb y z) refl
    where
      go : (b : Bool) → ltb y z ≡ b → numbers_at s nc y ≡ numbers_at s₀ nc y
      go true p =
          let r = d.room in
          let u = d.long in
          let q : get_or s (nc + y) 0 ≡ tagged (numbers_at s₀ nc) n y = rw e (noted-at nc (tagged (numbers_at s₀ nc) n) z s₀ y 0 (ltb-true y z p) (omega arith)) in
          ap (λ (x : ℕ). x / 2) q ∙ half-tagged (lone (numbers_at s₀ nc) n y) (numbers_at s₀ nc y)
      go false p =
          let w = ltb-false y z p in
          ap (λ (x : ℕ). x / 2) (rw e (noted-above nc (tagged (numbers_at s₀ nc) n) z s₀ (nc + y) 0 (omega arith)))

  pub linked-still : Linked s nc n t
  linked-still =
      let r = d.room in
      let u = d.long in
      record {
        chain =
            chain-kept (λ z. key_of t (numbers_at s₀ nc z)) (λ z. key_of t (numbers_at s nc z)) t (2 * nc) 0 n s₀ s
            (λ j l. ap (key_of t) (sym (numbers-still j l)))
            (λ k l. rw e (noted-above nc (tagged (numbers_at s₀ nc) n) z s₀ (2 * nc + k) 0 (omega arith)))
            (λ j l. rw e (noted-below nc (tagged (numbers_at s₀ nc) n) z s₀ (0 + j) 0 (omega arith)))
            d.chain;
        room = r;
        long = (let q = ap length e in let w = noted-length nc (tagged (numbers_at s₀ nc) n) z s₀ in omega arith);
      }

  pub tag-put : (v : ℕ) (s' : List ℕ) → v ≡ tagged (numbers_at s nc) n z → s' ≡ set s (nc + z) v → s' ≡ noted nc (tagged (numbers_at s₀ nc) n) (z + 1) s₀
  tag-put v s' f g =
      noted-turn nc (tagged (numbers_at s₀ nc) n) z s₀ s s' e
      (g ∙ ap (λ (x : ℕ). set s (nc + z) x) (f ∙ tagged-agree (numbers_at s nc) (numbers_at s₀ nc) n z h numbers-still))

-- all nodes tagged: s₁ has the numbers, s₂ blank heads, s₃ the links
pub all-tagged : (nc n t : ℕ) → n ≤ nc → (s₁ s₂ s₃ s₄ : List ℕ) → 2 * nc + t ≤ length s₁ → (0 < n → 0 < t) → s₂ ≡ blanked (2 * nc) t s₁ → s₃ ≡ down (link_node nc t) n s₂ →
    s₄ ≡ noted nc (tagged (numbers_at s₃ nc) n) n s₃ → Tags s₁ s₄ nc n
all-tagged nc n t room s₁ s₂ s₃ s₄ u some e₂ e₃ e₄ =
    let L = nodes-linked nc n t room s₁ s₂ s₃ u some e₂ e₃ in
    let a = L.long in
    record {
      each = λ z h.
          (rw e₄ (noted-at nc (tagged (numbers_at s₃ nc) n) n s₃ z 0 h (omega arith))
          ∙ tagged-agree (numbers_at s₃ nc) (numbers_at s₁ nc) n z h (numbers-kept nc n t room s₁ s₂ s₃ u some e₂ e₃));
    }
