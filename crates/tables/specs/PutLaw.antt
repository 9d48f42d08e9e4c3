-- Rows and nodes after one is put, and a table that is cleared from one on. Assumes nothing.
use Rattle.std.specs.Prelude.{◌≡◌, List, ◌++◌, ℕ, ◌+◌, ◌*◌, ◌-◌, ◌≤◌, ℤ, length, take, replicate}
use Rattle.std.proofs.Common.{ap, ◌∙◌, append-nil, le_refl}
use borrow.Rule.Slice.PartMut.{put_mid, mid_of, mid_len, Post-is}
use Rattle.std.proofs.Math.Seq.{drop-length}
use Rattle.lists.specs.Search.{items}
use Rattle.lists.specs.Table.{Form, Faithful, read_at, flatten}
use Rattle.lists.specs.TableLaw.{Table, form-table, blank-after}
use Rattle.meaning.specs.declared.Node.{Node}
use Rattle.meaning.specs.declared.Tri.{Tri}
use Rattle.meaning.specs.Tables.{node_form, row_form, nodes-faithful, rows-faithful, row_at, node_at, filled}
use Rattle.tables.specs.Put.{set_row, set_node}

pub rows-table : Table row_form.width row_at set_row
unfolding row_at set_row
rows-table = form-table row_form rows-faithful

pub nodes-table : Table node_form.width node_at set_node
unfolding node_at set_node
nodes-table = form-table node_form nodes-faithful

-- their facts by name
pub length-set_row : (l : List ℕ) (i : ℕ) (w : Tri) → length (set_row l i w) ≡ length l
length-set_row = rows-table.long

pub row-set-same : (l : List ℕ) (i : ℕ) (w : Tri) → 3 * i + 3 ≤ length l → row_at (set_row l i w) i ≡ w
row-set-same = rows-table.same

pub length-set_node : (l : List ℤ) (k : ℕ) (a : Node) → length (set_node l k a) ≡ length l
length-set_node = nodes-table.long

pub node-set-same : (l : List ℤ) (k : ℕ) (a : Node) → 4 * k + 4 ≤ length l → node_at (set_node l k a) k ≡ a
node-set-same = nodes-table.same

-- a part to the end comes back as zeros, in the form of needs
pub tail-filled : {A : Type 0} (xs ys : List A) (a : ℕ) (v : A) → a ≤ length xs → ys ≡ replicate (length (mid_of a (length xs - a) xs)) v →
    put_mid a (length xs - a) xs ys ≡ take a xs ++ replicate (length xs - a) v
tail-filled {A} xs ys a v h e =
    ap (λ (l : List A). take a xs ++ (ys ++ l)) (Post-is a (length xs) xs h ∙ drop-length xs)
    ∙ ap (λ (l : List A). take a xs ++ l) (append-nil ys ∙ e ∙ ap (λ (k : ℕ). replicate k v) (mid_len a (length xs) xs (le_refl (length xs))))

module _ {A R : Type 0} (F : Form A R) (S : Faithful F) where
  pub cleared-from : (l ys : List A) (k : ℕ) → F.width * k ≤ length l → ys ≡ replicate (length (mid_of (F.width * k) (length l - F.width * k) l)) F.blank →
      put_mid (F.width * k) (length l - F.width * k) l ys ≡ filled F.blank (length l) (flatten F (items (read_at F l) 0 k))
  cleared-from l ys k h e = tail-filled l ys (F.width * k) F.blank h e ∙ blank-after F S l k h
