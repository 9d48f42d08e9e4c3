-- Document 01, 'The line program': digits and numbers, read and written. Assumes nothing.
use Rattle.std.specs.Prelude.{Bool, ◌&&◌, ◌||◌, List, [], ◌∷◌, ℕ, zero, suc, ◌+◌, ◌-◌, ◌*◌, ◌/◌, ◌%◌, ◌^◌, leb, ltb, ℤ, pos, negsuc, length, get_or}
use Prim.Native.Char.{code}
use Prim.Native.String.{String, [] as []ˢ, ◌∷◌ as ◌∷ˢ◌}
use Rattle.lists.specs.Lists.{cases}
use Rattle.lists.specs.Search.{items}

-- a text as bytes
abbrev pub bytes : String → List ℕ
bytes []ˢ = []
bytes (c ∷ˢ s) = code c ∷ bytes s

-- ---- reading

-- "lower-case hexadecimal": 0 to 9 and a to f
unfoldable pub is_digit : ℕ → Bool
is_digit b = (leb 48 b && leb b 57) || (leb 97 b && leb b 102)

-- what a digit is worth; a byte that is none is worth nothing
unfoldable pub worth : ℕ → ℕ
worth b =
    cases (ltb b 48) 0
    (cases (leb b 57) (b - 48)
    (cases (ltb b 97) 0
    (cases (leb b 102) (b - 87)
    0)))

-- "Numbers are big-endian": the number in the w digits from place k on
unfoldable pub number : ℕ → List ℕ → ℕ → ℕ
number zero text k = 0
number (suc w) text k = 16 * number w text k + worth (get_or text (k + w) 0)

-- number i of those in the list, of w digits each
abbrev pub field : ℕ → List ℕ → ℕ → ℕ
field w text i = number w text (w * i)

-- the numbers listed, of 4 digits each
unfoldable pub listed : List ℕ → List ℕ
listed text = items (field 4 text) 0 (length text / 4)

-- "coordinates two's complement": the number that w digits of worth v stand for
unfoldable pub signed : ℕ → ℕ → ℤ
signed w v = cases (ltb v (16 ^ w / 2)) (pos v) (negsuc (16 ^ w - 1 - v))

-- ---- writing

-- the worth of 8 digits that stand for a number; the last 4 of them stand for it too, if it is from −32,768 to 32,767 (`node-read` in LinesAre)
unfoldable pub unsigned : ℤ → ℕ
unsigned (pos n) = n
unsigned (negsuc n) = 4294967295 - n

unfoldable pub hex_digit : ℕ → ℕ
hex_digit d = cases (ltb d 10) (48 + d) (87 + d)

-- the last w digits of n, big-endian
unfoldable pub hex : ℕ → ℕ → List ℕ
hex zero n = []
hex (suc w) n = hex_digit (n / 16 ^ w % 16) ∷ hex w n
