-- Where each field of a written line stands, and how long the lines are. Assumes nothing.
use Rattle.std.specs.Prelude.{◌≡◌, Bool, List, [], ◌∷◌, ◌++◌, map, ℕ, ◌+◌, ◌-◌, ◌*◌, ◌/◌, ◌%◌, ◌≤◌, ◌<◌, eqb, leb, ltb, ℤ, pos, negsuc, nat_abs, ◌≤ℤ◌, get_or, take, drop}
use Rattle.std.proofs.Math.Path.{refl, ap}
use Rattle.std.proofs.Common.{sym, ◌∙◌, mul-suc, leb-true, leb-false, ltb-true, ltb-false, lt-ltb, le-ltb, ne_eqb, leb→le, le→leb, length-append}
use Rattle.std.proofs.Math.Bool.{true, false}
use native.Mathlib.Omega.{arith}
use Prim.Native.String.{String}
use Rattle.std.proofs.Math.ListN.{length}
use Rattle.lists.specs.Lists.{joined, cases}
use Rattle.lists.specs.Search.{items}
use Rattle.lists.specs.IterLaw.{length-items}
use Rattle.meaning.specs.declared.Answer.{Answer}
use Rattle.meaning.specs.declared.Correction.{Correction}
use Rattle.meaning.specs.declared.Node.{Node}
use Rattle.meaning.specs.declared.Tinted.{Tinted}
use Rattle.meaning.specs.declared.Tri.{Tri}
use Rattle.meaning.specs.Mesh.{place, correction, node, tri}
use Rattle.meaning.specs.Lawful.{InBounds, NodeInRange}
use Rattle.meaning.specs.Tables.{answer, node_at, row_at}
use Rattle.text.specs.DigitsLaw.{worth-low, worth-digit, worth-between, worth-letter, worth-high}
use Rattle.text.specs.Digits.{bytes, field, hex, hex_digit, signed, unsigned, number, worth}
use Rattle.text.specs.Lines.{correction_in, node_in, row_in, ended, red_field, answer_line, node_line, row_line, all_lines}

-- "kind, number (2 digits each), n, t, passes (4 each)" and W2's "four digits": the first 20 bytes
module _ (kind : ℕ) (a : Tinted) where
  pub answer-fields : (take 2 (answer_line kind a) ≡ hex 2 kind) × (take 2 (drop 2 (answer_line kind a)) ≡ hex 2 a.answer.number) ×
      (take 4 (drop 4 (answer_line kind a)) ≡ hex 4 a.answer.n) × (take 4 (drop 8 (answer_line kind a)) ≡ hex 4 a.answer.t) ×
      (take 4 (drop 12 (answer_line kind a)) ≡ hex 4 a.answer.passes) × (take 4 (drop 16 (answer_line kind a)) ≡ hex 4 a.answer.culprit) ×
      (drop 20 (answer_line kind a) ≡ ended (red_field kind a.red))
  unfolding answer_line hex
  answer-fields = (refl, refl, refl, refl, refl, refl, refl)

  -- W8: "its answer alone ends with that field": of any other kind the line is what it was, of 21 bytes
  module _ (other : kind ≡ 0x0a → ⊥) where
    pub others-as-before : answer_line kind a ≡
        ended
        (hex 2 kind ++ hex 2 a.answer.number ++ hex 4 a.answer.n ++ hex 4 a.answer.t ++ hex 4 a.answer.passes ++ hex 4 a.answer.culprit)
    unfolding answer_line hex
    others-as-before = rw (ne_eqb kind 0x0a other)

    pub answer-length : length (answer_line kind a) ≡ 21
    unfolding answer_line hex
    answer-length = ap length others-as-before

  -- at most W8's "two digits" more
  pub answer-longest : length (answer_line kind a) ≤ 23
  unfolding answer_line hex
  answer-longest = go (eqb kind 0x0a)
    where
      go : (b : Bool) → length (ended (hex 2 kind ++ hex 2 a.answer.number ++ hex 4 a.answer.n ++ hex 4 a.answer.t ++ hex 4 a.answer.passes ++ hex 4 a.answer.culprit ++ cases b (hex 2 a.red) [])) ≤ 23
      go true = omega arith
      go false = omega arith

-- ".. two digits": the line of `0a` has 23
module _ (a : Tinted) where
  pub red-field : drop 20 (answer_line 0x0a a) ≡ ended (hex 2 a.red)
  unfolding answer_line hex
  red-field = refl

  pub red-length : length (answer_line 0x0a a) ≡ 23
  unfolding answer_line hex
  red-length = refl

-- what is written is read back: a digit
worth-hex : (v : ℕ) → worth (hex_digit (v % 16)) ≡ v % 16
unfolding hex_digit
worth-hex v = go (ltb (v % 16) 10) refl
  where
    go : (b : Bool) → ltb (v % 16) 10 ≡ b → worth (cases b (48 + v % 16) (87 + v % 16)) ≡ v % 16
    go true e = let l = ltb-true (v % 16) 10 e in sym (worth-digit (48 + v % 16) (omega arith) (omega arith)) ∙ omega arith
    go false e = let l = ltb-false (v % 16) 10 e in sym (worth-letter (87 + v % 16) (omega arith) (omega arith)) ∙ omega arith

-- two of them
two_digits : (v : ℕ) → 16 * (16 * 0 + worth (hex_digit (v / 16 % 16))) + worth (hex_digit (v / 1 % 16)) ≡ v % 256
two_digits v =
    let e : v / 1 % 16 + 16 * (v / 16) ≡ v = omega arith in
    let f : v / 16 % 16 + 16 * (v / 256) ≡ v / 16 = omega arith in
    rw (worth-hex (v / 16), worth-hex (v / 1)) (omega (arith, e, f))

-- four
four-digits : (v : ℕ) → 16 * (16 * (16 * (16 * 0 + worth (hex_digit (v / 4096 % 16))) + worth (hex_digit (v / 256 % 16))) + worth (hex_digit (v / 16 % 16))) + worth (hex_digit (v / 1 % 16)) ≡ v % 65536
four-digits v =
    let e : v / 1 % 16 + 16 * (v / 16) ≡ v = omega arith in
    let f : v / 16 % 16 + 16 * (v / 256) ≡ v / 16 = omega arith in
    let g : v / 256 % 16 + 16 * (v / 4096) ≡ v / 256 = omega arith in
    let k : v / 4096 % 16 + 16 * (v / 65536) ≡ v / 4096 = omega arith in
    rw (worth-hex (v / 4096), worth-hex (v / 256), worth-hex (v / 16), worth-hex (v / 1)) (omega (arith, e, f, g, k))

-- eight
eight-digits : (v : ℕ) → 16 * (16 * (16 * (16 * (16 * (16 * (16 * (16 * 0 + worth (hex_digit (v / 268435456 % 16))) + worth (hex_digit (v / 16777216 % 16))) + worth (hex_digit (v / 1048576 % 16))) + worth (hex_digit (v / 65536 % 16))) + worth (hex_digit (v / 4096 % 16))) + worth (hex_digit (v / 256 % 16))) + worth (hex_digit (v / 16 % 16))) + worth (hex_digit (v / 1 % 16)) ≡ v % 4294967296
eight-digits v =
    let high = four-digits (v / 65536) in
    let low = four-digits v in
    let e : v / 65536 / 4096 ≡ v / 268435456 = omega arith in
    let f : v / 65536 / 256 ≡ v / 16777216 = omega arith in
    let g : v / 65536 / 16 ≡ v / 1048576 = omega arith in
    let k : v / 65536 / 1 ≡ v / 65536 = omega arith in
    omega (arith, rw (e, f, g, k) at high, low)

-- the culprit of an answer, if it fits its field
pub culprit-read : (kind : ℕ) (a : Tinted) → a.answer.culprit < 65536 → number 4 (answer_line kind a) 16 ≡ a.answer.culprit
unfolding answer_line hex number
culprit-read kind a h = four-digits a.answer.culprit ∙ omega arith

-- and W8's field, which is 0 or 1
pub red-read : (a : Tinted) → a.red < 256 → number 2 (answer_line 0x0a a) 20 ≡ a.red
unfolding answer_line hex number
red-read a h = two_digits a.red ∙ omega arith

pub node-length : (a : Node) → length (node_line a) ≡ 27
unfolding node_line hex
node-length a = refl

pub row-length : (w : Tri) → length (row_line w) ≡ 15
unfolding row_line hex
row-length w = refl

-- four digits, whatever they are, are a correction in range
worth-small : (b : ℕ) → worth b < 16
worth-small b = go (leb b 57) (leb b 102) refl refl
  where
    low : (x : Bool) → ltb b 48 ≡ x → leb b 57 ≡ true → worth b < 16
    low true e f = omega (arith, worth-low b (ltb-true b 48 e))
    low false e f = let h = leb-true b 57 f in omega (arith, worth-digit b (ltb-false b 48 e) h)

    high : (x : Bool) → ltb b 97 ≡ x → leb b 57 ≡ false → leb b 102 ≡ true → worth b < 16
    high true e f g = omega (arith, worth-between b (leb-false b 57 f) (ltb-true b 97 e))
    high false e f g = let h = leb-true b 102 g in omega (arith, worth-letter b (ltb-false b 97 e) h)

    go : (x y : Bool) → leb b 57 ≡ x → leb b 102 ≡ y → worth b < 16
    go true y e f = low (ltb b 48) refl e
    go false true e f = high (ltb b 97) refl e f
    go false false e f = omega (arith, worth-high b (leb-false b 102 f))

number_small : (text : List ℕ) (k : ℕ) → number 4 text k < 65536
unfolding number
number_small text k =
    omega (arith, worth-small (get_or text (k + 0) 0), worth-small (get_or text (k + 1) 0), worth-small (get_or text (k + 2) 0), worth-small (get_or text (k + 3) 0))

part-bounds : (v : ℕ) → v < 65536 → (negsuc 32_767 ≤ℤ signed 4 v) × (signed 4 v ≤ℤ pos 32_767)
unfolding signed
part-bounds v h = go (ltb v 32768) refl
  where
    go : (x : Bool) → ltb v 32768 ≡ x → (negsuc 32_767 ≤ℤ cases x (pos v) (negsuc (65535 - v))) × (cases x (pos v) (negsuc (65535 - v)) ≤ℤ pos 32_767)
    go true e = let l = ltb-true v 32768 e in (record { le = tt }, record { le = le→leb v 32767 (omega arith) })
    go false e = let l = ltb-false v 32768 e in (record { le = le→leb (65535 - v) 32767 (omega arith) }, record { le = tt })

pub correction-bounds : (fields : List ℕ) (i : ℕ) → InBounds (correction_in fields i)
unfolding correction_in
correction-bounds fields i =
    let x = part-bounds (field 4 fields i) (number_small fields (4 * i)) in
    let y = part-bounds (field 4 fields (i + 1)) (number_small fields (4 * (i + 1))) in
    record { dx-from = x.0; dx-to = x.1; dy-from = y.0; dy-to = y.1 }

-- a coordinate; a part of a correction, of which the last 4 digits are written
coordinate-back : (z : ℤ) → nat_abs z ≤ 1_048_576 → signed 8 (unsigned z % 4294967296) ≡ z
unfolding signed unsigned
coordinate-back (pos n) h =
    let e : n % 4294967296 ≡ n = omega arith in
    rw (e, lt-ltb n 2147483648 (omega arith))
coordinate-back (negsuc n) h =
    let e : (4294967295 - n) % 4294967296 ≡ 4294967295 - n = omega arith in
    let f : 4294967295 - (4294967295 - n) ≡ n = omega arith in
    rw (e, le-ltb (4294967295 - n) 2147483648 (omega arith), f)

part-back : (z : ℤ) → negsuc 32_767 ≤ℤ z → z ≤ℤ pos 32_767 → signed 4 (unsigned z % 65536) ≡ z
unfolding signed unsigned
part-back (pos n) _ h =
    let k = leb→le n 32767 h.le in
    let e : n % 65536 ≡ n = omega arith in
    rw (e, lt-ltb n 32768 (omega arith))
part-back (negsuc n) h _ =
    let k = leb→le n 32767 h.le in
    let e : (4294967295 - n) % 65536 ≡ 65535 - n = omega arith in
    let f : 65535 - (65535 - n) ≡ n = omega arith in
    rw (e, le-ltb (65535 - n) 32768 (omega arith), f)

-- A NODE IN RANGE IS READ BACK FROM ITS LINE.
pub node-read : (a : Node) → NodeInRange a → node_in (drop 2 (node_line a)) ≡ a
unfolding node_in correction_in node_line hex number
node-read a h =
    let p = h.place_in in
    let c = h.correction-in in
    rw (
      eight-digits (unsigned a.place.x),
      eight-digits (unsigned a.place.y),
      four-digits (unsigned a.correction.dx),
      four-digits (unsigned a.correction.dy),
      coordinate-back a.place.x p.x-near,
      coordinate-back a.place.y p.y-near,
      part-back a.correction.dx c.dx-from c.dx-to,
      part-back a.correction.dy c.dy-from c.dy-to,
    )

-- AND THE FIELDS OF `08` SAY A NODE AND A CORRECTION IN RANGE.
abbrev pub setting_text : ℕ → Correction → List ℕ
setting_text z c = hex 4 z ++ hex 4 (unsigned c.dx) ++ hex 4 (unsigned c.dy)

module _ (z : ℕ) (c : Correction) where
  pub setting-node : z < 65536 → field 4 (setting_text z c) 0 ≡ z
  unfolding hex number
  setting-node h = four-digits z ∙ omega arith

  pub setting-correction : InBounds c → correction_in (setting_text z c) 1 ≡ c
  unfolding correction_in hex number
  setting-correction b =
      rw (
        four-digits (unsigned c.dx),
        four-digits (unsigned c.dy),
        part-back c.dx b.dx-from b.dx-to,
        part-back c.dy b.dy-from b.dy-to,
      )

lines-length : {A : Type 0} (f : A → List ℕ) (k : ℕ) → ((a : A) → length (f a) ≡ k) → (l : List A) → length (joined f l) ≡ k * length l
lines-length f k h [] = omega arith
lines-length f k h (a ∷ l) = length-append (f a) (joined f l) ∙ rw (h a, lines-length f k h l) (omega (arith, mul-suc k (length l)))

pub all-length : (ns : List ℤ) (rs : List ℕ) (n t : ℕ) → length (all_lines ns rs n t) ≡ 27 * n + 15 * t
unfolding all_lines
all-length ns rs n t =
    length-append (joined node_line (items (node_at ns) 0 n)) (joined row_line (items (row_at rs) 0 t)) ∙
    rw (
      lines-length node_line 27 node-length (items (node_at ns) 0 n),
      lines-length row_line 15 row-length (items (row_at rs) 0 t),
      length-items (node_at ns) n,
      length-items (row_at rs) t,
    )

-- computed: what is written, and what is expected
record Pair : Type 0 where
  line : List ℕ
  expected : String

pair : List ℕ → String → Pair
pair l s = record { line = l; expected = s }

said : Answer → ℕ → Tinted
said a r = record { answer = a; red = r }

lines : List Pair
lines =
    pair (answer_line 4 (said (answer 9 511 1023 0 0) 0)) "040901ff03ff00000000\n" ∷
    pair (answer_line 6 (said (answer 0 4 2 3 0) 0)) "06000004000200030000\n" ∷
    pair (answer_line 3 (said (answer 5 0 0 0 1022) 0)) "030500000000000003fe\n" ∷
    -- W8's field: of `0a`, and of no other kind
    pair (answer_line 0x0a (said (answer 0 6 4 0 0) 1)) "0a00000600040000000001\n" ∷
    pair (answer_line 0x0a (said (answer 8 3 1 0 0) 0)) "0a08000300010000000000\n" ∷
    pair (answer_line 9 (said (answer 0 6 4 0 0) 1)) "09000006000400000000\n" ∷
    pair (node_line (node (place (pos 8) (negsuc 2)) (correction (negsuc 0) (pos 258)))) "0100000008fffffffdffff0102\n" ∷
    pair (node_line (node (place (pos 0) (pos 0)) (correction (pos 32767) (negsuc 32767)))) "0100000000000000007fff8000\n" ∷
    pair (row_line (tri 1 255 2748)) "02000100ff0abc\n" ∷
    []

lines-written : map (λ p. p.line) lines ≡ map (λ p. bytes p.expected) lines
unfolding lines pair said answer_line node_line row_line hex hex_digit unsigned
lines-written = refl

-- and what was written is read back
pub lines-read : (node_in (bytes "00000008fffffffdffff0102") ≡ node (place (pos 8) (negsuc 2)) (correction (negsuc 0) (pos 258))) ×
    (node_in (bytes "00000000000000007fff8000") ≡ node (place (pos 0) (pos 0)) (correction (pos 32767) (negsuc 32767))) ×
    (row_in (bytes "000100ff0abc") ≡ tri 1 255 2748)
unfolding correction_in node_in row_in number worth signed
lines-read = (refl, refl, refl)
