-- Laws of single steps, which the check finds alone today, or by newer laws. Assumes nothing.
use Rattle.std.specs.Prelude.{◌≡◌, Bool, true, false, ◌&&◌, List, ℕ, suc, ◌+◌, ◌-◌, ◌*◌, ◌/◌, ◌%◌, ◌≤◌, ◌<◌, eqb, length}
use Rattle.std.proofs.Common.{sym, ◌∙◌, mul-suc, mul-le-mul_left, arith}
use borrow.Author.Tests.{lt-ltb, le-ltb, eq-eqb, ne_eqb}
use Rattle.std.proofs.Math.ListN.{get_or, get_or-eq_default}
use Rattle.lists.specs.LoopsLaw.{remaining-gone, remaining-put}
use Rattle.lists.specs.TableLaw.{Table}
use Rattle.meaning.specs.declared.Tri.{Tri}
use Rattle.meaning.specs.Mesh.{tri}
use Rattle.meaning.specs.Coarsen.{marked}
use Rattle.meaning.specs.Tables.{row_at}
use Rattle.laws.specs.Meshes.{Fair}
use Rattle.gather.specs.Closing.{Closing}
use Rattle.gather.specs.Goes.{Small, take_at, fate_no, next_number, father_by, renamed_by, new_row}

-- ---- which nodes go

module _ (marks s : List ℕ) (nc z v : ℕ) (b : Bool) (e : v ≡ get_or s (nc + z) 0) (f : b ≡ marked marks z) where
  pub take-yes : b && eqb (v % 2) 1 ≡ true → v / 2 ≡ take_at marks s nc z
  unfolding take_at
  take-yes h = let q : marked marks z && eqb (get_or s (nc + z) 0 % 2) 1 ≡ true = rw (← e, ← f) h in rw (q, e)

  pub take_no : b && eqb (v % 2) 1 ≡ false → 0 ≡ take_at marks s nc z
  unfolding take_at
  take_no h = let q : marked marks z && eqb (get_or s (nc + z) 0 % 2) 1 ≡ false = rw (← e, ← f) h in rw q

-- ---- fates

module _ (v : ℕ) (w : Tri) (o : v ≡ 0 → ⊥) where
  pub fate-lo : w.r ≡ (v - 1) / 32_768 → (v - 1) % 32_768 + 2 ≡ fate_no v w
  unfolding fate_no
  fate-lo e = rw (ne_eqb v 0 o, eq-eqb w.r ((v - 1) / 32_768) e)

  pub fate-hi : (w.r ≡ (v - 1) / 32_768 → ⊥) → w.r ≡ (v - 1) % 32_768 → (v - 1) / 32_768 + 2 ≡ fate_no v w
  unfolding fate_no
  fate-hi n e = rw (ne_eqb v 0 o, ne_eqb w.r ((v - 1) / 32_768) n, eq-eqb w.r ((v - 1) % 32_768) e)

  pub fate_goes : (w.r ≡ (v - 1) / 32_768 → ⊥) → (w.r ≡ (v - 1) % 32_768 → ⊥) → 1 ≡ fate_no v w
  unfolding fate_no
  fate_goes n e = rw (ne_eqb v 0 o, ne_eqb w.r ((v - 1) / 32_768) n, ne_eqb w.r ((v - 1) % 32_768) e)

module _ (w : Tri) (l s : List ℕ) (n t i nc : ℕ) (e : w ≡ row_at l i) (f : Fair l n t) (h : i < t) where
  pub newest-in : nc + n ≤ length s → nc + w.p < length s
  newest-in k = rw e (omega (arith, f.named i h))

  pub newest-few : (v : ℕ) → Small s nc n → v ≡ get_or s (nc + w.p) 0 → v ≤ 1_073_741_824
  newest-few v k g = let a = k.small w.p (rw e (f.named i h).p-below) in omega arith

-- ---- new numbers

pub next-same : (b x : Bool) (k : ℕ) → b ≡ x → b ≡ true → k ≡ next_number x k
next-same b x k e f = rw (← e, f)

pub next_more : (b x : Bool) (k : ℕ) → b ≡ x → b ≡ false → k + 1 ≡ next_number x k
next_more b x k e f = rw (← e, f)

-- ---- rows

pub past : (s : List ℕ) (k : ℕ) → length s ≤ k → 0 ≡ get_or s k 0
past s k h = sym (get_or-eq_default s 0 h)

pub father-same : (w : Tri) (f : ℕ) → f < 2 → w ≡ father_by w f
unfolding father_by
father-same w f h = rw (lt-ltb f 2 h)

pub father-new : (w : Tri) (f : ℕ) → 2 ≤ f → tri w.q w.r (f - 2) ≡ father_by w f
unfolding father_by
father-new w f h = rw (le-ltb f 2 h)

pub row_made : (l s : List ℕ) (nc i f : ℕ) (w x y : Tri) → w ≡ row_at l i → f ≡ get_or s (2 * nc + i) 0 → x ≡ father_by w f → y ≡ renamed_by s x → y ≡ new_row s nc l i
unfolding new_row
row_made l s nc i f w x y a b c d = d ∙ rw (c, b, a)

pub new-same : (s : List ℕ) (nc : ℕ) (l l' : List ℕ) (i : ℕ) → row_at l i ≡ row_at l' i → new_row s nc l i ≡ new_row s nc l' i
unfolding new_row
new-same s nc l l' i q = rw q

-- ---- a table that closes up

module _ {A R : Type 0} (read : List A → ℕ → R) (gone : ℕ → Bool) (new : List A → ℕ → R) (l₀ l : List A) (i k t : ℕ) (d : Closing read gone new l₀ l i k t) where
  pub closing-skip : (b : Bool) → i < t → b ≡ gone i → b ≡ true → Closing read gone new l₀ l (i + 1) k t
  closing-skip b h f y = record {
    long = d.long;
    rest = λ j a. d.rest j (omega arith);
    whole = remaining-gone gone (new l₀) (read l) k i t _ d.whole h (sym f ∙ y);
  }

-- record i, made new, is put in place k
module _ {A R : Type 0} {w : ℕ} {read : List A → ℕ → R} {write : List A → ℕ → R → List A} (T : Table w read write) (new : List A → ℕ → R)
    (by-record : (l l' : List A) (i : ℕ) → read l i ≡ read l' i → new l i ≡ new l' i) where
  pub closing-put : (gone : ℕ → Bool) (l₀ l l' : List A) (i k t : ℕ) (b : Bool) → Closing read gone new l₀ l i k t → w * t ≤ length l₀ → i < t → k ≤ i →
      b ≡ gone i → b ≡ false → l' ≡ write l k (new l i) → Closing read gone new l₀ l' (i + 1) (k + 1) t
  closing-put gone l₀ l l' i k t b d room h a f y e =
      let q = d.long in
      let m : w * suc k ≤ w * t = mul-le-mul_left w (omega arith) in
      let s = mul-suc w k in
      record {
        long = rw e (T.long l k (new l i)) ∙ d.long;
        rest = λ j u. (rw e (T.other l k j (new l i) (omega arith)) ∙ d.rest j (omega arith));
        whole =
            remaining-put gone (new l₀) (read l) k i t _ d.whole (read l') h (sym f ∙ y)
            (rw e (T.same l k (new l i) (omega arith)) ∙ by-record l l₀ i (d.rest i (omega arith)))
            (λ j u. rw e (T.other l k j (new l i) (omega arith)));
      }
