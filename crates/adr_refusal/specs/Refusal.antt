-- The table of refusals.
use Rattle.std.specs.Prelude.{ℕ, ◌==◌, List, [], ◌∷◌, Option, find, codes}
use Rattle.adr_refusal.specs.declared.refusal.Refusal.{Refusal}
use Rattle.adr_refusal.specs.declared.refusal.Refusal.TheVariants.{LongLine, BadLine, BadMoment, BadId, BadNumber, BadJson, NotObject, WrongKind, IdMismatch, Missing, WrongType, BadText, BadDateTime, BadDuration, NegativeDuration, BadPriority, BadShape, TooMany, NoStart, AfterEndless, TimeRange, Exists, NotThere, NoProgram, NoVen, InUse, Full, BadWindow, UnknownResource, NoRuntime, NoMemory}

-- the number that a refusal is known by
abbrev pub number_of : Refusal → ℕ
number_of LongLine = 1
number_of BadLine = 2
number_of BadMoment = 3
number_of BadId = 4
number_of BadNumber = 5
number_of BadJson = 6
number_of NotObject = 7
number_of WrongKind = 8
number_of IdMismatch = 9
number_of Missing = 10
number_of WrongType = 11
number_of BadText = 12
number_of BadDateTime = 13
number_of BadDuration = 14
number_of NegativeDuration = 15
number_of BadPriority = 16
number_of BadShape = 17
number_of TooMany = 18
number_of NoStart = 19
number_of AfterEndless = 20
number_of TimeRange = 21
number_of Exists = 22
number_of NotThere = 23
number_of NoProgram = 24
number_of NoVen = 25
number_of InUse = 26
number_of Full = 27
number_of BadWindow = 28
number_of UnknownResource = 29
number_of NoRuntime = 98
number_of NoMemory = 99

-- the name that stands beside the number
abbrev pub name_of : Refusal → List ℕ
name_of LongLine = codes "LongLine"
name_of BadLine = codes "BadLine"
name_of BadMoment = codes "BadMoment"
name_of BadId = codes "BadId"
name_of BadNumber = codes "BadNumber"
name_of BadJson = codes "BadJson"
name_of NotObject = codes "NotObject"
name_of WrongKind = codes "WrongKind"
name_of IdMismatch = codes "IdMismatch"
name_of Missing = codes "Missing"
name_of WrongType = codes "WrongType"
name_of BadText = codes "BadText"
name_of BadDateTime = codes "BadDateTime"
name_of BadDuration = codes "BadDuration"
name_of NegativeDuration = codes "NegativeDuration"
name_of BadPriority = codes "BadPriority"
name_of BadShape = codes "BadShape"
name_of TooMany = codes "TooMany"
name_of NoStart = codes "NoStart"
name_of AfterEndless = codes "AfterEndless"
name_of TimeRange = codes "TimeRange"
name_of Exists = codes "Exists"
name_of NotThere = codes "NotThere"
name_of NoProgram = codes "NoProgram"
name_of NoVen = codes "NoVen"
name_of InUse = codes "InUse"
name_of Full = codes "Full"
name_of BadWindow = codes "BadWindow"
name_of UnknownResource = codes "UnknownResource"
name_of NoRuntime = codes "NoRuntime"
name_of NoMemory = codes "NoMemory"

-- all of them
abbrev pub refusals : List Refusal
refusals =
    LongLine ∷
    BadLine ∷
    BadMoment ∷
    BadId ∷
    BadNumber ∷
    BadJson ∷
    NotObject ∷
    WrongKind ∷
    IdMismatch ∷
    Missing ∷
    WrongType ∷
    BadText ∷
    BadDateTime ∷
    BadDuration ∷
    NegativeDuration ∷
    BadPriority ∷
    BadShape ∷
    TooMany ∷
    NoStart ∷
    AfterEndless ∷
    TimeRange ∷
    Exists ∷
    NotThere ∷
    NoProgram ∷
    NoVen ∷
    InUse ∷
    Full ∷
    BadWindow ∷
    UnknownResource ∷
    NoRuntime ∷
    NoMemory ∷
    []

-- the refusal of a number
abbrev pub of_number : ℕ → Option Refusal
of_number n = find (λ r. number_of r == n) refusals
