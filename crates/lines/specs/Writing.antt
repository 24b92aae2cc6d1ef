-- How a transcript goes on with the parts of an answer.
use Rattle.std.specs.Prelude.{ℕ, ◌+◌, List, [], ◌∷◌, ◌++◌}
use Rattle.calendar.specs.declared.DateTime.{DateTime}
use Rattle.text.specs.Numerals.{decimal_text}

-- Text, a number, text.
abbrev pub numbered : List ℕ → List ℕ → ℕ → List ℕ → List ℕ
numbered before front n back = before ++ front ++ decimal_text 1 n ++ back

-- A number of at least so many digits, and a mark behind it.
abbrev pub marked : List ℕ → ℕ → ℕ → ℕ → List ℕ
marked before width n mark = before ++ decimal_text width n ++ mark ∷ []

-- YYYY-MM-DD HH:MM:SS and the weekday.
abbrev pub date_after : List ℕ → DateTime → ℕ → List ℕ
date_after before t weekday =
    let year : List ℕ = marked before 4 (2000 + t.year) 45 in
    let date : List ℕ = marked (marked year 2 t.month 45) 2 t.day 32 in
    marked (marked (marked date 2 t.hour 58) 2 t.minute 58) 2 t.second 32 ++ decimal_text 1 weekday
