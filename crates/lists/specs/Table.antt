-- Tables of records, each of so many numbers, one record after the other. Assumes nothing.
use Rattle.std.specs.Prelude.{List, ◌++◌, ◌≡◌, ℕ, ◌*◌, get_or}
use Rattle.std.proofs.lemmas.List.Edits.{sets}
use Rattle.lists.specs.Lists.{joined}
use Rattle.lists.specs.Search.{items_from}

-- how a record stands in a table: how many numbers it has, what an empty table holds, a record's numbers, and the record whose numbers
-- are f b, f (b + 1), ..
pub record Form (A R : Type 0) : Type 0 where
  pub width : ℕ
  pub blank : A
  pub fields : R → List A
  pub from : (ℕ → A) → ℕ → R

module _ {A R : Type 0} (F : Form A R) where
  -- record k of a table
  abbrev pub read_at : List A → ℕ → R
  read_at l k = F.from (λ n. get_or l n F.blank) (F.width * k)

  -- the table with record k replaced
  abbrev pub write_at : List A → ℕ → R → List A
  write_at l k r = sets l (F.width * k) (F.fields r)

  -- the numbers of records, one after the other
  abbrev pub flatten : List R → List A
  flatten = joined F.fields

  -- reading and writing agree
  pub record Faithful : Type 0 where
    pub fields-from : (f : ℕ → A) (b : ℕ) → F.fields (F.from f b) ≡ items_from f b F.width
    pub from_fields : (r : R) (more : List A) → F.from (λ n. get_or (F.fields r ++ more) n F.blank) 0 ≡ r
