-- Calls on tables: room to spare, garbage past the counts, scratch that is not clear; every reason for 1; each call's culprit; and W8's field.
-- Rows of one list, under one claim. Assumes nothing.
use Rattle.std.specs.Prelude.{◌≡◌, refl, List, [], ◌∷◌, ◌++◌, map, ℕ, pos, replicate}
use Rattle.lists.specs.Search.{lowest, lowest_from, items, items_from}
use Rattle.meaning.specs.declared.Told.{Told}
use Rattle.meaning.specs.declared.Manner.TheVariants.{Newest, AllThree}
use Rattle.meaning.specs.declared.Quarters.TheVariants.{Bisected, Red}
use Rattle.meaning.specs.Mesh.{place, correction, twice_area}
use Rattle.meaning.specs.Lawful.{refusal, compatible, fault_of, first_outside, first_misnamed, first_repeat, first_flat, first_unused, first_clash}
use Rattle.meaning.specs.Proper.{none_left, parted_by, apart, first_crowded, first_overlap, uncrowded, disjoint}
use Rattle.meaning.specs.Split.{newest, all_three, closure, split_edges, split_at, split, refined}
use Rattle.meaning.specs.Good.{pairs, span, G1-4, good}
use Rattle.meaning.specs.Setting.{corrected, set_fault}
use Rattle.meaning.specs.Asking.{weighted, weights, mean_in, row_holding, correction_at}
use Rattle.meaning.specs.Coarsen.{taken, without, coarsened, good_nodes, pass, restored}
use Rattle.meaning.specs.Tables.{Given, Outcome, given, outcome, answer, node_at, row_at, mesh_of}
use Rattle.meaning.specs.Calls.{culprit_of, check_no, refine_no, coarsen_no, checks, refines, coarsens, restores, sets, sizes_fit, check_out, refine_out, TintedOut, tinted, refine_by_out, red_out, coarsen_out, restore_out, set_out, ask_no, told, asks, Heard, heard, ask_out}

record Row : Type 0 where
  got : Outcome
  expected : Outcome

◌is◌ : Outcome → Outcome → Row
◌is◌ a b = record { got = a; expected = b }

infix 20 ◌is◌
-- tables with scratch full of sevens; what is left of them with scratch full of zeros
lent : List ℕ → List ℕ → ℕ → ℕ → ℕ → Given
lent ns rs k n t = given (map pos ns) rs (replicate k 7) n t

said : ℕ → ℕ → ℕ → ℕ → List ℕ → List ℕ → ℕ → Outcome
said j n t k ns rs c = outcome (answer j n t k 0) (map pos ns) rs (replicate c 0)

-- refused, node or row z being the culprit
blamed : ℕ → ℕ → ℕ → ℕ → List ℕ → List ℕ → ℕ → Outcome
blamed j z n t ns rs c = outcome (answer j n t 0 z) (map pos ns) rs (replicate c 0)

-- the square, its corners carrying (3, 4), (5, 0), (6, 1) and (0, 2)
square : List ℕ
square = 0 ∷ 0 ∷ 3 ∷ 4 ∷ 8 ∷ 0 ∷ 5 ∷ 0 ∷ 8 ∷ 8 ∷ 6 ∷ 1 ∷ 0 ∷ 8 ∷ 0 ∷ 2 ∷ []

-- the middle of 0–2, with the mean of what they carry
middle : List ℕ
middle = 4 ∷ 4 ∷ 4 ∷ 2 ∷ []

-- and those of 1–2 and 0–1
middles : List ℕ
middles = middle ++ 8 ∷ 4 ∷ 5 ∷ 0 ∷ 4 ∷ 0 ∷ 4 ∷ 2 ∷ []

spare : List ℕ
spare = square ++ replicate 4 9

two : List ℕ
two = 1 ∷ 2 ∷ 0 ∷ 3 ∷ 0 ∷ 2 ∷ []

wide : List ℕ
wide = two ++ replicate 9 5

four : List ℕ
four = 4 ∷ 1 ∷ 2 ∷ 4 ∷ 3 ∷ 0 ∷ 4 ∷ 0 ∷ 1 ∷ 4 ∷ 2 ∷ 3 ∷ []

six : List ℕ
six = 5 ∷ 4 ∷ 1 ∷ 4 ∷ 3 ∷ 0 ∷ 6 ∷ 4 ∷ 0 ∷ 5 ∷ 2 ∷ 4 ∷ 6 ∷ 1 ∷ 4 ∷ 4 ∷ 2 ∷ 3 ∷ []

-- the square refined
grown : List ℕ
grown = square ++ middle

-- node 1 is outside, by its place; by its correction
outside : List ℕ
outside = 0 ∷ 0 ∷ 3 ∷ 4 ∷ 1_048_577 ∷ 0 ∷ 5 ∷ 0 ∷ 8 ∷ 8 ∷ 6 ∷ 1 ∷ 0 ∷ 8 ∷ 0 ∷ 2 ∷ replicate 4 9

beyond : List ℕ
beyond = 0 ∷ 0 ∷ 3 ∷ 4 ∷ 8 ∷ 0 ∷ 5 ∷ 32_768 ∷ 8 ∷ 8 ∷ 6 ∷ 1 ∷ 0 ∷ 8 ∷ 0 ∷ 2 ∷ replicate 4 9

-- row 1 names node 4; has 2→0, as row 0 has; has a twice-area below 0
misnamed : List ℕ
misnamed = 1 ∷ 2 ∷ 0 ∷ 3 ∷ 0 ∷ 4 ∷ replicate 9 5

repeated : List ℕ
repeated = 1 ∷ 2 ∷ 0 ∷ 2 ∷ 0 ∷ 3 ∷ replicate 9 5

turned : List ℕ
turned = 1 ∷ 2 ∷ 0 ∷ 0 ∷ 2 ∷ 1 ∷ replicate 9 5

-- a check that draws 1 leaves all but scratch
wrong : List ℕ → List ℕ → ℕ → ℕ → ℕ → Row
wrong ns rs k n t = check_out (lent ns rs k n t) is said 1 n t 0 ns rs k

outcomes : List Row
outcomes =
    -- S in room for 5 nodes and 5 rows: 4 × 10 numbers of scratch are enough
    (check_out (lent spare wide 40 4 2) is said 0 4 2 0 spare wide 40) ∷
    (refine_out newest (lent spare wide 40 4 2) 4 (1 ∷ 0 ∷ []) is said 0 5 4 0 (square ++ middle) (four ++ 0 ∷ 0 ∷ 0 ∷ []) 40) ∷
    (coarsen_out (lent (square ++ middle) (four ++ 7 ∷ 7 ∷ 7 ∷ []) 43 5 4) 4 (1 ∷ 1 ∷ 1 ∷ 1 ∷ 1 ∷ []) is said 0 4 2 0 (square ++ replicate 4 0) (two ++ replicate 9 0) 43) ∷
    (restore_out (lent (square ++ middle) four 36 5 4) 4 is said 0 4 2 1 (square ++ replicate 4 0) (two ++ replicate 6 0) 36) ∷
    -- from all three edges, in room for 8 nodes and 7 rows
    (refine_out all_three (lent (square ++ replicate 16 9) (two ++ replicate 15 5) 60 4 2) 4 (1 ∷ 0 ∷ []) is said 0 7 6 0 (square ++ middles ++ replicate 4 0) (six ++ 0 ∷ 0 ∷ 0 ∷ []) 60) ∷
    -- refused refines, the second in the room where 01's is done, and a coarsen that takes nothing
    (refine_out newest (lent square two 24 4 2) 4 (1 ∷ 0 ∷ []) is said 9 4 2 0 square two 24) ∷
    (refine_out all_three (lent spare wide 40 4 2) 4 (1 ∷ 0 ∷ []) is said 9 4 2 0 spare wide 40) ∷
    (coarsen_out (lent spare wide 40 4 2) 4 (1 ∷ 1 ∷ 1 ∷ 1 ∷ []) is said 0 4 2 0 (square ++ replicate 4 0) (two ++ replicate 9 0) 40) ∷
    -- 1: scratch is short; a table length is no multiple of its row; a room, a count or n0 is too large
    wrong spare wide 39 4 2 ∷
    wrong spare wide 0 4 2 ∷
    wrong (9 ∷ spare) wide 60 4 2 ∷
    wrong (9 ∷ 9 ∷ spare) wide 60 4 2 ∷
    wrong (9 ∷ 9 ∷ 9 ∷ spare) wide 60 4 2 ∷
    wrong spare (9 ∷ wide) 60 4 2 ∷
    wrong spare (9 ∷ 9 ∷ wide) 60 4 2 ∷
    wrong spare wide 40 6 2 ∷
    wrong spare wide 40 4 6 ∷
    (refine_out newest (lent spare wide 40 4 2) 5 (1 ∷ 0 ∷ []) is said 1 4 2 0 spare wide 40) ∷
    (refine_out all_three (lent spare wide 40 4 2) 5 (1 ∷ 0 ∷ []) is said 1 4 2 0 spare wide 40) ∷
    (coarsen_out (lent spare wide 40 4 2) 5 (1 ∷ []) is said 1 4 2 0 spare wide 40) ∷
    (restore_out (lent spare wide 40 4 2) 5 is said 1 4 2 0 spare wide 40) ∷
    (check_out (lent (replicate 4096 0) (replicate 6144 0) 12288 0 0) is said 0 0 0 0 (replicate 4096 0) (replicate 6144 0) 12288) ∷
    wrong (replicate 4100 0) [] 4100 0 0 ∷
    wrong [] (replicate 6147 0) 8196 0 0 ∷
    -- 3 to 7 name a node or a row
    (check_out (lent outside wide 40 4 2) is blamed 3 1 4 2 outside wide 40) ∷
    (refine_out newest (lent spare misnamed 40 4 2) 4 (0 ∷ 0 ∷ []) is blamed 4 1 4 2 spare misnamed 40) ∷
    (refine_out all_three (lent spare repeated 40 4 2) 4 (1 ∷ 0 ∷ []) is blamed 5 1 4 2 spare repeated 40) ∷
    (coarsen_out (lent spare turned 40 4 2) 4 (1 ∷ 1 ∷ 1 ∷ 1 ∷ []) is blamed 6 1 4 2 spare turned 40) ∷
    (restore_out (lent spare wide 40 5 2) 4 is blamed 7 4 5 2 spare wide 40) ∷
    -- 1 and 2 do not, though node 1 is outside
    wrong outside wide 39 4 2 ∷
    (refine_out newest (lent outside wide 39 4 2) 4 (0 ∷ 0 ∷ []) is said 1 4 2 0 outside wide 39) ∷
    (coarsen_out (lent outside wide 40 4 2) 5 (1 ∷ 1 ∷ 1 ∷ 1 ∷ []) is said 1 4 2 0 outside wide 40) ∷
    (restore_out (lent outside wide 39 4 2) 4 is said 1 4 2 0 outside wide 39) ∷
    (refine_out newest (lent outside wide 40 4 2) 4 (0 ∷ []) is said 2 4 2 0 outside wide 40) ∷
    (refine_out all_three (lent outside wide 40 4 2) 4 (0 ∷ 2 ∷ []) is said 2 4 2 0 outside wide 40) ∷
    (coarsen_out (lent outside wide 40 4 2) 4 (1 ∷ []) is said 2 4 2 0 outside wide 40) ∷
    -- W5: a correction out of range is 3
    (check_out (lent beyond wide 40 4 2) is blamed 3 1 4 2 beyond wide 40) ∷
    -- a setting: two numbers differ, entries past the counts are zero
    (set_out (lent (grown ++ replicate 8 9) (four ++ replicate 3 7) 48 5 4) 4 4 (correction (pos 7) (pos 8)) is said 0 5 4 0 (square ++ 4 ∷ 4 ∷ 7 ∷ 8 ∷ replicate 8 0) (four ++ replicate 3 0) 48) ∷
    -- refused: 1; 3 stored, before the value; 3 for the value, naming the node given; 4; 13; 15
    (set_out (lent grown four 35 5 4) 4 4 (correction (pos 7) (pos 8)) is said 1 5 4 0 grown four 35) ∷
    (set_out (lent grown four 36 5 4) 6 4 (correction (pos 7) (pos 8)) is said 1 5 4 0 grown four 36) ∷
    (set_out (lent beyond wide 40 4 2) 4 4 (correction (pos 32_768) (pos 8)) is blamed 3 1 4 2 beyond wide 40) ∷
    (set_out (lent grown four 36 5 4) 4 4 (correction (pos 7) (pos 32_768)) is blamed 3 4 5 4 grown four 36) ∷
    (set_out (lent spare misnamed 40 4 2) 4 9 (correction (pos 32_768) (pos 8)) is blamed 3 9 4 2 spare misnamed 40) ∷
    (set_out (lent spare misnamed 40 4 2) 4 9 (correction (pos 7) (pos 8)) is blamed 4 1 4 2 spare misnamed 40) ∷
    (set_out (lent grown four 36 5 4) 4 3 (correction (pos 7) (pos 8)) is said 13 5 4 0 grown four 36) ∷
    (set_out (lent grown four 36 5 4) 4 5 (correction (pos 7) (pos 8)) is said 15 5 4 0 grown four 36) ∷
    []

hand-tables : map (λ r. r.got) outcomes ≡ map (λ r. r.expected) outcomes
unfolding outcomes wrong lent said blamed square middle middles grown spare two wide four six outside misnamed repeated beyond turned ◌is◌ lowest lowest_from items items_from node_at row_at mesh_of twice_area first_outside first_misnamed first_repeat first_flat first_unused first_clash fault_of refusal compatible none_left parted_by apart first_crowded first_overlap uncrowded disjoint closure split_edges split_at split refined pairs span G1-4 good taken without coarsened good_nodes pass restored culprit_of check_no refine_no coarsen_no checks refines coarsens restores sizes_fit check_out refine_out coarsen_out restore_out corrected set_fault sets set_out
hand-tables = refl

-- W8: row 0 of the square cut red
six_red : List ℕ
six_red = 1 ∷ 5 ∷ 6 ∷ 4 ∷ 3 ∷ 0 ∷ 5 ∷ 2 ∷ 4 ∷ 6 ∷ 4 ∷ 0 ∷ 4 ∷ 6 ∷ 5 ∷ 4 ∷ 2 ∷ 3 ∷ []

-- called in red, and what it must leave, with the field
red_calls : List (TintedOut × TintedOut)
red_calls =
    -- 1 "when it made a red cut, else 0": row 0 marked, in room for 8 nodes and 7 rows; nothing marked
    (red_out (lent (square ++ replicate 16 9) (two ++ replicate 15 5) 60 4 2) 4 (1 ∷ 0 ∷ []), tinted (said 0 7 6 0 (square ++ middles ++ replicate 4 0) (six_red ++ 0 ∷ 0 ∷ 0 ∷ []) 60) 1) ∷
    (red_out (lent spare wide 41 4 2) 4 (0 ∷ 0 ∷ []), tinted (said 0 4 2 0 (square ++ replicate 4 0) (two ++ replicate 9 0) 41) 0) ∷
    -- refused: 1, by scratch, by n0 and by a count; 2; 5; 9
    (red_out (lent spare wide 39 4 2) 4 (1 ∷ 0 ∷ []), tinted (said 1 4 2 0 spare wide 39) 0) ∷
    (red_out (lent spare wide 40 4 2) 5 (1 ∷ 0 ∷ []), tinted (said 1 4 2 0 spare wide 40) 0) ∷
    (red_out (lent spare wide 40 4 6) 4 (1 ∷ 0 ∷ []), tinted (said 1 4 6 0 spare wide 40) 0) ∷
    (red_out (lent spare wide 40 4 2) 4 (1 ∷ []), tinted (said 2 4 2 0 spare wide 40) 0) ∷
    (red_out (lent spare repeated 40 4 2) 4 (1 ∷ 0 ∷ []), tinted (blamed 5 1 4 2 spare repeated 40) 0) ∷
    (red_out (lent spare wide 40 4 2) 4 (1 ∷ 0 ∷ []), tinted (said 9 4 2 0 spare wide 40) 0) ∷
    -- one split edge a row; three, but cut by bisection
    (refine_by_out Newest Red (lent spare wide 40 4 2) 4 (1 ∷ 0 ∷ []), tinted (said 0 5 4 0 grown (four ++ 0 ∷ 0 ∷ 0 ∷ []) 40) 0) ∷
    (refine_by_out AllThree Bisected (lent (square ++ replicate 12 9) (two ++ replicate 12 5) 52 4 2) 4 (1 ∷ 0 ∷ []), tinted (said 0 7 6 0 (square ++ middles) six 52) 0) ∷
    []

hand-red : map (λ r. r.0) red_calls ≡ map (λ r. r.1) red_calls
unfolding red_calls lent said blamed square middle middles grown spare two wide four six six_red repeated lowest lowest_from items items_from node_at row_at mesh_of twice_area first_outside first_misnamed first_repeat first_flat first_unused fault_of refusal closure split_edges split_at split refined culprit_of refine_no refines sizes_fit refine_out refine_by_out
hand-red = refl

-- W6: what a question leaves: nodes and rows as they were, past the counts too
left : Told → List ℕ → List ℕ → ℕ → Heard
left a ns rs c = heard a (map pos ns) rs (replicate c 0)

-- asked of the square, and told
questions : List (Heard × Heard)
questions =
    -- weights 32, 16, 16: 304/64 and 80/64
    (ask_out (lent spare wide 40 4 2) 4 (place (pos 6) (pos 2)), left (told 0 0 (correction (pos 4) (pos 1))) spare wide 40) ∷
    (ask_out (lent spare wide 40 4 2) 0 (place (pos 9) (pos 2)), left (told 14 0 (correction (pos 0) (pos 0))) spare wide 40) ∷
    -- 1 comes first, then 3 to 7, whatever the point
    (ask_out (lent outside wide 39 4 2) 4 (place (pos 6) (pos 2)), left (told 1 0 (correction (pos 0) (pos 0))) outside wide 39) ∷
    (ask_out (lent spare wide 40 4 2) 5 (place (pos 6) (pos 2)), left (told 1 0 (correction (pos 0) (pos 0))) spare wide 40) ∷
    (ask_out (lent spare wide 40 6 2) 4 (place (pos 9) (pos 2)), left (told 1 0 (correction (pos 0) (pos 0))) spare wide 40) ∷
    (ask_out (lent outside wide 40 4 2) 4 (place (pos 6) (pos 2)), left (told 3 1 (correction (pos 0) (pos 0))) outside wide 40) ∷
    (ask_out (lent spare turned 40 4 2) 4 (place (pos 9) (pos 2)), left (told 6 1 (correction (pos 0) (pos 0))) spare turned 40) ∷
    []

hand-questions : map (λ r. r.0) questions ≡ map (λ r. r.1) questions
unfolding questions left lent square spare two wide outside turned lowest lowest_from items items_from node_at row_at mesh_of twice_area first_outside first_misnamed first_repeat first_flat first_unused fault_of refusal culprit_of sizes_fit weighted weights mean_in row_holding correction_at ask_no asks ask_out
hand-questions = refl
