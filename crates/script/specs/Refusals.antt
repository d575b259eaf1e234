-- The line that names what stopped a script.
use Rattle.std.specs.Prelude.{ℕ, ◌+◌, cond, List, [], ◌++◌, codes, decimal, ◌==◌}
use Rattle.script.specs.declared.export.RunAnswer.{RunAnswer}

-- the line that was refused, from 1; 0 where the script was too long, code 5
abbrev pub refused_line : RunAnswer → ℕ
refused_line a = cond (a.code == 5) 0 (a.lines + 1)

-- E,line,code and byte 10; nothing where nothing was refused
abbrev pub refusal_bytes : RunAnswer → List ℕ
refusal_bytes a =
    cond (a.code == 0) [] (codes "E," ++ (decimal (refused_line a) ++ (codes "," ++ (decimal a.code ++ codes "\n"))))
