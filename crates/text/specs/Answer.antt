-- The answers of best route and set off, as text.
use Rattle.std.specs.Prelude.{List, [], ◌∷◌, ◌++◌, ℕ, ◌-◌, cond, eqb, ℤ, take}
use Rattle.network.specs.Files.{most_junctions}
use Rattle.promises.specs.declared.CheckNumbers.{CheckNumbers}
use Rattle.promises.specs.declared.PlanNumbers.{PlanNumbers}
use Rattle.digits.specs.Line.{space}
use Rattle.digits.specs.Decimal.{decimal, number_line, word_line, signed_line}

-- the most roads of a route: it visits no junction twice
abbrev pub most_route : ℕ
most_route = most_junctions - 1

-- the words, byte by byte
abbrev pub arrival : List ℕ
arrival = 97 ∷ 114 ∷ 114 ∷ 105 ∷ 118 ∷ 97 ∷ 108 ∷ []

abbrev pub drawn : List ℕ
drawn = 100 ∷ 114 ∷ 97 ∷ 119 ∷ 110 ∷ []

abbrev pub recovered : List ℕ
recovered = 114 ∷ 101 ∷ 99 ∷ 111 ∷ 118 ∷ 101 ∷ 114 ∷ 101 ∷ 100 ∷ []

abbrev pub spilled : List ℕ
spilled = 115 ∷ 112 ∷ 105 ∷ 108 ∷ 108 ∷ 101 ∷ 100 ∷ []

abbrev pub roads : List ℕ
roads = 114 ∷ 111 ∷ 97 ∷ 100 ∷ 115 ∷ []

abbrev pub refused : List ℕ
refused = 114 ∷ 101 ∷ 102 ∷ 117 ∷ 115 ∷ 101 ∷ 100 ∷ []

-- items, one to a line
unfoldable pub item_lines : {A : Type 0} → (A → List ℕ) → List A → List ℕ
item_lines line [] = []
item_lines line (x ∷ xs) = line x ++ item_lines line xs

abbrev pub number_lines : List ℕ → List ℕ
number_lines ns = item_lines number_line ns

abbrev pub signed_lines : List ℤ → List ℕ
signed_lines zs = item_lines signed_line zs

-- a route: its numbers, then each road number in driving order
unfoldable pub route_text : PlanNumbers → List ℕ → List ℕ
route_text a ks =
    word_line arrival a.arrival ++
    (word_line drawn a.drawn ++
    (word_line recovered a.recovered ++
    (word_line spilled a.spilled ++
    (word_line roads a.roads ++ number_lines ks))))

-- a refusal: `refused`, number, place, on one line with single spaces
unfoldable pub refused_text : ℕ → ℕ → List ℕ
refused_text number place = refused ++ (space ∷ (decimal number ++ (space ∷ number_line place)))

-- an answer of this number and place: a success is written as its text, anything else as a refusal
abbrev pub outcome_text : ℕ → ℕ → List ℕ → List ℕ
outcome_text number place success = cond (eqb number 0) success (refused_text number place)

-- what best route gives back, with the lent list after it
abbrev pub answer_text : PlanNumbers → List ℕ → List ℕ
answer_text a xs = outcome_text a.number a.place (route_text a (take a.roads xs))

-- what set off gives back, with the count n of junctions and the lent list after it
abbrev pub set_off_text : CheckNumbers → ℕ → List ℤ → List ℕ
set_off_text a n xs = outcome_text a.number a.place (signed_lines (take n xs))
