-- A table that closes up, over any width: the records that do not go move to the front in order, each made new. Assumes nothing.
use Rattle.std.specs.Prelude.{◌≡◌, refl, Bool, true, false, List, ◌++◌, ℕ, suc, ◌+◌, ◌*◌, ◌≤◌, ◌<◌, length, Option, Some, None}
use Rattle.std.proofs.Common.{sym, ap, ◌∙◌, mul-suc, mul-le-mul_left, arith}
use Rattle.lists.specs.Lists.{cases}
use Rattle.lists.specs.Search.{items}
use Rattle.lists.specs.IterLaw.{length-items}
use Rattle.lists.specs.Loops.{remaining}
use Rattle.lists.specs.LoopsLaw.{remaining-gone, remaining-put, remaining-start, remaining-done}
use Rattle.lists.specs.Table.{Form, Faithful, read_at, write_at, flatten}
use Rattle.lists.specs.TableLaw.{Table, form-table}
use Rattle.meaning.specs.Tables.{filled}
use Rattle.meaning.specs.declared.Node.{Node}
use Rattle.meaning.specs.declared.Tri.{Tri}
use Rattle.gather.specs.Goes.{gone_node, gone_row, made_row}

-- which records go, by number, and what becomes of those that stay
pub record Renewing (R : Type 0) : Type 0 where
  pub gone : ℕ → Bool
  pub made : ℕ → R → R

module _ {R : Type 0} (a : Renewing R) where
  abbrev pub renewed : ℕ → R → Option R
  renewed i w = cases (a.gone i) None (Some (a.made i w))

  -- those of the first t that stay, made new
  abbrev pub kept_by : (ℕ → R) → ℕ → List R
  kept_by read t = remaining a.gone (λ i. a.made i (read i)) 0 t

-- the rows and the nodes, by the notes in s
abbrev pub row_renewing : List ℕ → ℕ → Renewing Tri
row_renewing s nc = record { gone = gone_row s nc; made = made_row s nc }

abbrev pub node_renewing : List ℕ → ℕ → Renewing Node
node_renewing s nc = record { gone = gone_node s nc; made = λ z a. a }

-- l₀ is the table at first. Now, in l, its records below i have closed up to k; those from i on are as they were
pub record Closing {A R : Type 0} (read : List A → ℕ → R) (gone : ℕ → Bool) (new : List A → ℕ → R) (l₀ l : List A) (i k t : ℕ) : Type 0 where
  pub long : length l ≡ length l₀
  pub rest : (j : ℕ) → i ≤ j → read l j ≡ read l₀ j
  pub whole : items (read l) 0 k ++ remaining gone (new l₀) i t ≡ remaining gone (new l₀) 0 t

module _ {A R : Type 0} (read : List A → ℕ → R) (gone : ℕ → Bool) (new : List A → ℕ → R) where
  pub closing-start : (l : List A) (t : ℕ) → Closing read gone new l l 0 0 t
  closing-start l t = record { long = refl; rest = λ j h. refl; whole = remaining-start gone (new l) (read l) t }

  module _ (l₀ l : List A) (i k t : ℕ) where
    closing-skip : Closing read gone new l₀ l i k t → i < t → gone i ≡ true → Closing read gone new l₀ l (i + 1) k t
    closing-skip d h y = record {
      long = d.long;
      rest = λ j a. d.rest j (omega arith);
      whole = remaining-gone gone (new l₀) (read l) k i t _ d.whole h y;
    }

    pub closing-done : Closing read gone new l₀ l i k t → t ≤ i → items (read l) 0 k ≡ remaining gone (new l₀) 0 t
    closing-done d h = remaining-done gone (new l₀) (read l) k i t _ d.whole h

pub items-count : {R : Type 0} (a : ℕ → R) (k : ℕ) (ws : List R) → items a 0 k ≡ ws → k ≡ length ws
items-count a k ws e = sym (length-items a k) ∙ ap length e

-- what stands past the records that remain is cleared
pub table-closed : {A R : Type 0} (F : Form A R) (l₀ l l' : List A) (a : ℕ → R) (k : ℕ) (ws : List R) → length l ≡ length l₀ → items a 0 k ≡ ws →
    l' ≡ filled F.blank (length l) (flatten F (items a 0 k)) → l' ≡ filled F.blank (length l₀) (flatten F ws)
table-closed F l₀ l l' a k ws q e f = f ∙ rw (e, q)

-- record i, made new, is put in place k
module _ {A R : Type 0} {w : ℕ} {read : List A → ℕ → R} {write : List A → ℕ → R → List A} (T : Table w read write) (new : List A → ℕ → R)
    (by-record : (l l' : List A) (i : ℕ) → read l i ≡ read l' i → new l i ≡ new l' i) where
  closing-put : (gone : ℕ → Bool) (l₀ l l' : List A) (i k t : ℕ) → Closing read gone new l₀ l i k t → w * t ≤ length l₀ → i < t → k ≤ i →
      gone i ≡ false → l' ≡ write l k (new l i) → Closing read gone new l₀ l' (i + 1) (k + 1) t
  closing-put gone l₀ l l' i k t d room h a y e =
      let q = d.long in
      let m : w * suc k ≤ w * t = mul-le-mul_left w (omega arith) in
      let s = mul-suc w k in
      record {
        long = rw e (T.long l k (new l i)) ∙ d.long;
        rest = λ j u. (rw e (T.other l k j (new l i) (omega arith)) ∙ d.rest j (omega arith));
        whole =
            remaining-put gone (new l₀) (read l) k i t _ d.whole (read l') h y
            (rw e (T.same l k (new l i) (omega arith)) ∙ by-record l l₀ i (d.rest i (omega arith)))
            (λ j u. rw e (T.other l k j (new l i) (omega arith)));
      }

-- ---- one turn: o is what becomes of w, which is record i

gone-told : {R : Type 0} (b : Bool) (x : R) → None ≡ cases b None (Some x) → b ≡ true
gone-told true x e = refl
gone-told false x e = cc

kept-told : {R : Type 0} (b : Bool) (x v : R) → Some v ≡ cases b None (Some x) → (b ≡ false) × (v ≡ x)
kept-told true x v e = cc
kept-told false x v e = (refl, cc)

module _ {A R : Type 0} (F : Form A R) (S : Faithful F) (a : Renewing R) (l₀ l l' : List A) (i k k' t : ℕ) (w : R) (o : Option R)
    (d : Closing (read_at F) a.gone (λ x j. a.made j (read_at F x j)) l₀ l i k t) (h : i < t) (e : w ≡ read_at F l i) (f : o ≡ renewed a i w) where
  pub closing-gone : o ≡ None → l' ≡ l → k' ≡ k → Closing (read_at F) a.gone (λ x j. a.made j (read_at F x j)) l₀ l' (i + 1) k' t
  closing-gone n p q =
      rw (p, q) (closing-skip (read_at F) a.gone (λ x j. a.made j (read_at F x j)) l₀ l i k t d h (gone-told (a.gone i) (a.made i w) (sym n ∙ f)))

  pub closing-kept : (v : R) (l'' : List A) → F.width * t ≤ length l₀ → k ≤ i → o ≡ Some v → l'' ≡ write_at F l k v → l' ≡ l'' → k' ≡ k + 1 →
      Closing (read_at F) a.gone (λ x j. a.made j (read_at F x j)) l₀ l' (i + 1) k' t
  closing-kept v l'' room b n g p q =
      let y = kept-told (a.gone i) (a.made i w) v (sym n ∙ f) in
      let z : l'' ≡ write_at F l k (a.made i (read_at F l i)) = g ∙ ap (write_at F l k) (y.1 ∙ ap (a.made i) e) in
      rw (p, q) (closing-put (form-table F S) (λ x j. a.made j (read_at F x j)) (λ x x' j u. ap (a.made j) u) a.gone l₀ l l'' i k t d room h b y.0 z)
