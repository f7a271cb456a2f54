-- What a job has to be, and which one a line of words asks for.
use Rattle.std.specs.Prelude.{◌≡◌, ◌≤◌, ℕ, Bool, true, false, List, Some}
use Rattle.std.specs.Str.Parse.{IsNumeral, digits_value, without_leading_plus}
use Rattle.clap.specs.Words.{App, Text}
use Rattle.adr_server.specs.Grammar.{asks_for_fan, count_text, tie_named, tie_text}
use Rattle.adr_model.specs.declared.entry.Tie.{Tie}
use Rattle.adr_server.specs.declared.jobs.Job.{Job}
use Rattle.adr_server.specs.declared.jobs.Job.TheVariants.{Run, Fan}

-- how many workers or readers it has
abbrev pub count_of_job : Job → ℕ
count_of_job (Run workers tie) = workers
count_of_job (Fan readers tie) = readers

-- under which rule for ties it runs
abbrev pub tie_of_job : Job → Tie
tie_of_job (Run workers tie) = tie
tie_of_job (Fan readers tie) = tie

-- whether readers answer it
abbrev pub is_fan_job : Job → Bool
is_fan_job (Run workers tie) = false
is_fan_job (Fan readers tie) = true

-- workers and readers are 1 to 64
abbrev pub IsJob : Job → Type 0
IsJob job = (1 ≤ count_of_job job) × (count_of_job job ≤ 64)

-- the workers, or readers, are as many as the words say
abbrev pub HasTheCount : App → List Text → Job → Type 0
HasTheCount adr words job =
    (text : Text) → count_text adr words ≡ Some text → let number = without_leading_plus text in IsNumeral 10 number
    → 1 ≤ digits_value 10 number → digits_value 10 number ≤ 64 → count_of_job job ≡ digits_value 10 number

-- it is the job that the words name, with as many, and under the rule for ties that they name
abbrev pub IsAsked : App → List Text → Job → Type 0
IsAsked adr words job = (is_fan_job job ≡ asks_for_fan adr words) × HasTheCount adr words job × (tie_of_job job ≡ tie_named (tie_text adr words))
