-- Why a command line is refused: each case says that all that is judged before it is good.
--   AreRefusedWords names fault keyword rest == the first word of a line and the words after it are
--                                               refused with the fault
--     Word     the first word is no command word
--     Form     it is one, and the words after it have the wrong number, or one is empty
--     Name     the line is well formed, and a name that it gives is that of no vertex, or stands
--              twice
--     Number   all names of the line are good, and a number that it gives is not spelled as numbers
--              are, or is out of its range
--   IsLineFault names fault line                 == the words of the line are refused with the fault; none
--                                                   are for a seat
--   line_fault_text fault                        == `bad`, what is wrong with the line, and a newline
use Rattle.std.specs.Prelude.{◌≡◌, ℕ, List, ◌∷◌, None, IsSome, codes}
use Rattle.dg_lines.specs.Cuts.{words}
use Rattle.dg_lines.specs.CommandWords.{HaveDistinctNames, AreNumerals}
use Rattle.dg_lines.specs.Commands.{wanted_kinds, kinds_on_line, IsWellFormed}
use Rattle.dg_lines.specs.declared.line.LineFault.{LineFault}
use Rattle.dg_lines.specs.declared.line.LineFault.TheVariants.{Seat, Word, Form, Name, Number}

abbrev pub AreRefusedWords : List (List ℕ) → LineFault → List ℕ → List (List ℕ) → Type 0
AreRefusedWords names Seat keyword rest = ⊥
AreRefusedWords names Word keyword rest = wanted_kinds keyword ≡ None
AreRefusedWords names Form keyword rest = IsSome (wanted_kinds keyword) × ¬ IsWellFormed keyword rest
AreRefusedWords names Name keyword rest =
    IsWellFormed keyword rest × ¬ HaveDistinctNames names (kinds_on_line keyword) rest
AreRefusedWords names Number keyword rest =
    IsWellFormed keyword rest × HaveDistinctNames names (kinds_on_line keyword) rest
    × ¬ AreNumerals (kinds_on_line keyword) rest

pub record IsLineFault (names : List (List ℕ)) (fault : LineFault) (line : List ℕ) : Type 0 where
  pub keyword : List ℕ
  pub rest : List (List ℕ)
  pub cut : words line ≡ keyword ∷ rest
  pub refused : AreRefusedWords names fault keyword rest

abbrev pub line_fault_text : LineFault → List ℕ
line_fault_text Seat = codes "bad seat\n"
line_fault_text Word = codes "bad word\n"
line_fault_text Form = codes "bad form\n"
line_fault_text Name = codes "bad name\n"
line_fault_text Number = codes "bad number\n"
