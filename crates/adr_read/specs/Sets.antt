-- Sets of faults, as lists: what is wrong with a value, a member and a list.
use Rattle.std.specs.Prelude.{ℕ, ◌+◌, nat_le, List, [], ◌∷◌, ◌++◌, length, Bool, true, false, Option, Some, None, option_map, unwrap_or, Result, Ok, Err}
use Rattle.std.specs.List.{flat_map}
use Rattle.serde_json.specs.Data.{Data}
use Rattle.serde_json.specs.Find.{as_array, as_object}
use Rattle.adr_refusal.specs.declared.refusal.Refusal.{Refusal}
use Rattle.adr_refusal.specs.declared.refusal.Refusal.TheVariants.{Missing, WrongType, TooMany}
use Rattle.adr_read.specs.Looking.{elements}

-- the fault, where the test fails
abbrev pub unless : Bool → Refusal → List Refusal
unless true f = []
unless false f = f ∷ []

-- what a reading is refused for
abbrev pub faults_of : {A : Type 0} → Result A Refusal → List Refusal
faults_of (Ok x) = []
faults_of (Err f) = f ∷ []

-- what a reading gives, or a default that nobody looks at
abbrev pub given : {A : Type 0} → A → Result A Refusal → A
given default (Ok x) = x
given default (Err f) = default

-- of a value of another kind nothing else is looked at
abbrev pub of_kind : {A : Type 0} → Option A → (A → List Refusal) → List Refusal
of_kind None faults = WrongType ∷ []
of_kind (Some x) faults = faults x

-- the same of what has to be an object
abbrev pub of_object : Data → List Refusal → List Refusal
of_object d faults = of_kind (as_object d) (λ _. faults)

-- a required member that is absent or null is missing
abbrev pub required : (Data → List Refusal) → Option Data → List Refusal
required faults None = Missing ∷ []
required faults (Some d) = faults d

-- a member that may be absent or null
abbrev pub optional : (Data → List Refusal) → Option Data → List Refusal
optional faults None = []
optional faults (Some d) = faults d

-- what is wrong only where nothing else is
abbrev pub if_none : List Refusal → List Refusal → List Refusal
if_none [] more = more
if_none (f ∷ fs) more = f ∷ fs

-- a list above its limit is at fault, and its elements are still looked at
abbrev pub list_faults : ℕ → (Data → List Refusal) → Data → List Refusal
list_faults limit faults d =
    of_kind (as_array d) (λ ds. unless (nat_le (length (elements ds)) limit) TooMany ++ flat_map faults (elements ds))

-- what each element stands for at its place, counted from n
abbrev pub at_places : {X A : Type 0} → (ℕ → X → A) → ℕ → List X → List A
at_places read_as n [] = []
at_places read_as n (x ∷ xs) = read_as n x ∷ at_places read_as (n + 1) xs

-- the elements in order, each told its place
abbrev pub list_in : {A : Type 0} → (ℕ → Data → A) → Data → List A
list_in read_as d = unwrap_or (option_map (λ ds. at_places read_as 0 (elements ds)) (as_array d)) []
