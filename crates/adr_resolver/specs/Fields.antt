-- The parts of a line, by the words that it has. Words are parted by exactly one space and aren't empty.
use Rattle.std.specs.Prelude.{ℕ, ◌==◌, ◌&&◌, Bool, true, false, not, List, [], ◌∷◌, length, take, drop, codes, Option, Some, None, if◌then◌else◌}
use Rattle.std.specs.List.{prefix_len}
use Rattle.std.specs.Option.{option_map}
use Rattle.std.specs.Str.{bytes_eq}
use Rattle.adr_value.specs.Spelling.{◌>>=◌}
use Rattle.adr_object.specs.declared.object.Kind.{Kind}
use Rattle.adr_object.specs.declared.object.Kind.TheVariants.{Program, Event, Ven, Resource}
use Rattle.adr_resolver.specs.declared.fields.Verb.{Verb}
use Rattle.adr_resolver.specs.declared.fields.Verb.TheVariants.{Create, Change}

-- the value, where the test holds
abbrev pub only : {A : Type 0} → Bool → A → Option A
only true value = Some value
only false value = None

-- a byte of a word
abbrev pub is_word_byte : ℕ → Bool
is_word_byte b = not (b == 32)

-- what stands after a space
abbrev pub after_space : List ℕ → Option (List ℕ)
after_space [] = None
after_space (b ∷ rest) = Some rest

-- the first word of a text that goes on after it, and what stands after its space
unfoldable pub first_word : List ℕ → Option (List ℕ × List ℕ)
first_word text =
    let n = prefix_len is_word_byte text in
    if n == 0 then None else option_map (λ rest. (take n text, rest)) (after_space (drop n text))

-- the last word, after which the line ends
unfoldable pub last_word : List ℕ → Option (List ℕ)
last_word text = only (not (length text == 0) && (prefix_len is_word_byte text == length text)) text

-- what stands after that word, if the text begins with it
unfoldable pub after_word : List ℕ → List ℕ → Option (List ℕ)
after_word word text = do
  first ← first_word text
  only (bytes_eq first.0 word) first.1

abbrev pub kind_named : List ℕ → Option Kind
kind_named word =
    if bytes_eq word (codes "program") then Some Program
    else (if bytes_eq word (codes "event") then Some Event
    else (if bytes_eq word (codes "ven") then Some Ven
    else (if bytes_eq word (codes "resource") then Some Resource else None)))

-- what an edit with a body does with its object
abbrev pub verb_named : List ℕ → Option Verb
verb_named word =
    if bytes_eq word (codes "create") then Some Create
    else (if bytes_eq word (codes "change") then Some Change else None)

-- what all edits begin with, `edit MOMENT VERB KIND`, and what stands after it
pub record EditLine : Type 0 where
  pub moment : List ℕ
  pub verb : List ℕ
  pub kind : Kind
  pub rest : List ℕ

unfoldable pub edit_line : List ℕ → Option EditLine
edit_line line = do
  rest ← after_word (codes "edit") line
  moment ← first_word rest
  verb ← first_word moment.1
  kind ← first_word verb.1
  named ← kind_named kind.0
  Some (record { moment = moment.0; verb = verb.0; kind = named; rest = kind.1 })

-- `edit MOMENT create KIND ID JSON` or `edit MOMENT change KIND ID JSON`: the body is the rest of the line, perhaps empty
pub record WriteLine : Type 0 where
  pub moment : List ℕ
  pub verb : Verb
  pub kind : Kind
  pub id : List ℕ
  pub body : List ℕ

unfoldable pub write_line : List ℕ → Option WriteLine
write_line line = do
  edit ← edit_line line
  verb ← verb_named edit.verb
  id ← first_word edit.rest
  Some (record { moment = edit.moment; verb = verb; kind = edit.kind; id = id.0; body = id.1 })

-- `edit MOMENT delete KIND ID`
pub record DeleteLine : Type 0 where
  pub moment : List ℕ
  pub kind : Kind
  pub id : List ℕ

unfoldable pub delete_line : List ℕ → Option DeleteLine
delete_line line = do
  edit ← edit_line line
  id ← last_word edit.rest
  only (bytes_eq edit.verb (codes "delete")) (record { moment = edit.moment; kind = edit.kind; id = id })

-- `at RESOURCE TYPE MOMENT`
pub record AtLine : Type 0 where
  pub resource : List ℕ
  pub payload_type : List ℕ
  pub moment : List ℕ

unfoldable pub at_line : List ℕ → Option AtLine
at_line line = do
  rest ← after_word (codes "at") line
  resource ← first_word rest
  payload_type ← first_word resource.1
  moment ← last_word payload_type.1
  Some (record { resource = resource.0; payload_type = payload_type.0; moment = moment })

-- `list RESOURCE TYPE FROM TO`
pub record ListLine : Type 0 where
  pub resource : List ℕ
  pub payload_type : List ℕ
  pub from : List ℕ
  pub to : List ℕ

unfoldable pub list_line : List ℕ → Option ListLine
list_line line = do
  rest ← after_word (codes "list") line
  resource ← first_word rest
  payload_type ← first_word resource.1
  from ← first_word payload_type.1
  to ← last_word from.1
  Some (record { resource = resource.0; payload_type = payload_type.0; from = from.0; to = to })

-- `roll TYPE MOMENT`
pub record RollLine : Type 0 where
  pub payload_type : List ℕ
  pub moment : List ℕ

unfoldable pub roll_line : List ℕ → Option RollLine
roll_line line = do
  rest ← after_word (codes "roll") line
  payload_type ← first_word rest
  moment ← last_word payload_type.1
  Some (record { payload_type = payload_type.0; moment = moment })

-- `types RESOURCE`: its resource
unfoldable pub types_line : List ℕ → Option (List ℕ)
types_line line = do
  rest ← after_word (codes "types") line
  last_word rest
