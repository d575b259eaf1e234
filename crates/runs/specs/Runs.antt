-- Lists of calls on a card: the card after them, and what they answer.
use Rattle.std.specs.Prelude.{List, [], ◌∷◌}
use Rattle.card.specs.Calls.{Card, accepted, card_after_read, card_after_write, read_done, tick_done, tick_levels, value_of, write_done}
use Rattle.runs.specs.declared.Answer.{Answer}
use Rattle.runs.specs.declared.Answer.TheVariants.{Levels, Value, Done}
use Rattle.runs.specs.declared.Call.{Call}
use Rattle.runs.specs.declared.Call.TheVariants.{Tick, Read, Write}

-- the card after a call
abbrev pub step : Card → Call → Card
step c (Tick lines inputs) = tick_done lines inputs c
step c (Read o) = card_after_read c (read_done c o)
step c (Write o v) = card_after_write c (write_done c o v)

-- what a call answers
abbrev pub answer_to : Card → Call → Answer
answer_to c (Tick lines inputs) = Levels (tick_levels lines inputs c)
answer_to c (Read o) = Value (value_of (read_done c o))
answer_to c (Write o v) = Done (accepted (write_done c o v))

-- the card after a list of calls
abbrev pub run : Card → List Call → Card
run c [] = c
run c (x ∷ xs) = run (step c x) xs

-- every answer, in order
abbrev pub answers : Card → List Call → List Answer
answers c [] = []
answers c (x ∷ xs) = answer_to c x ∷ answers (step c x) xs
