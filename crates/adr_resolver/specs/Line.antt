-- The command that a line is, or the least of its faults: a line of no form is looked at no further; else the faults of
-- its moments come before the id's, and the id's before those of the body or of the type.
use Rattle.std.specs.Prelude.{ℕ, ℤ, nat_lt, List, length, codes, Result, Ok, Err, if◌then◌else◌}
use Rattle.std.specs.Option.{option_map_or}
use Rattle.std.specs.Str.{bytes_eq, is_utf8}
use Rattle.adr_refusal.specs.Answer.{result_map, result_and_then}
use Rattle.adr_value.specs.Limits.{Limits, limits}
use Rattle.adr_value.specs.Payload.{type_named}
use Rattle.adr_value.specs.declared.payload.PayloadType.{PayloadType}
use Rattle.adr_refusal.specs.declared.refusal.Refusal.{Refusal}
use Rattle.adr_refusal.specs.declared.refusal.Refusal.TheVariants.{LongLine, BadLine, BadMoment, BadText}
use Rattle.adr_time.specs.Reading.{moment_named}
use Rattle.adr_object.specs.Id.{id_named}
use Rattle.adr_object.specs.declared.object.Edit.{Edit as Change}
use Rattle.adr_object.specs.declared.object.Edit.TheVariants.{Create as Created, Change as Changed, Remove as Removed}
use Rattle.adr_object.specs.declared.object.Kind.{Kind}
use Rattle.adr_object.specs.declared.object.Kind.TheVariants.{Program as program_kind, Event as event_kind, Ven as ven_kind, Resource as resource_kind}
use Rattle.adr_object.specs.declared.object.Object.{Object}
use Rattle.adr_object.specs.declared.object.Object.TheVariants.{Program as program, Event as event, Ven as ven, Resource as resource}
use Rattle.adr_read.specs.Body.{program_named, event_named_by, ven_named, resource_named}
use Rattle.adr_resolver.specs.declared.command.Command.{Command}
use Rattle.adr_resolver.specs.declared.command.Command.TheVariants.{Edit, Publish, Condense, At, List as Listed, Roll, Types}
use Rattle.adr_resolver.specs.declared.fields.Verb.{Verb}
use Rattle.adr_resolver.specs.declared.fields.Verb.TheVariants.{Create as create_verb, Change as change_verb}
use Rattle.adr_resolver.specs.Fields.{WriteLine, DeleteLine, AtLine, ListLine, RollLine, write_line, delete_line, at_line, list_line, roll_line, types_line}

-- what the words of a line name; a word that is no UTF-8 names nothing
abbrev pub moment_word : List ℕ → Result ℤ Refusal
moment_word word = if is_utf8 word then moment_named word else Err BadMoment

abbrev pub type_word : List ℕ → Result PayloadType Refusal
type_word word = if is_utf8 word then type_named word else Err BadText

-- the object of a body, on a line with that id, at the moment of the edit, under limits
abbrev pub object_of_by : Limits → Kind → ℤ → List ℕ → List ℕ → Result Object Refusal
object_of_by l program_kind now id body = result_map program (program_named body id)
object_of_by l event_kind now id body = result_map event (event_named_by l now body id)
object_of_by l ven_kind now id body = result_map ven (ven_named body id)
object_of_by l resource_kind now id body = result_map resource (resource_named body id)

-- the edit that such a line makes of its object
abbrev pub edit_with : Verb → Object → Change
edit_with create_verb o = Created o
edit_with change_verb o = Changed o

abbrev pub writes_by : Limits → WriteLine → ℤ → List ℕ → Result Command Refusal
writes_by l line now id = result_map (λ o. Edit (edit_with line.verb o)) (object_of_by l line.kind now id line.body)

unfoldable pub write_command_by : Limits → WriteLine → Result Command Refusal
write_command_by l line = result_and_then (λ now. result_and_then (writes_by l line now) (id_named line.id)) (moment_word line.moment)

unfoldable pub delete_command : DeleteLine → Result Command Refusal
delete_command l = result_and_then (λ now. result_map (λ id. Edit (Removed l.kind id)) (id_named l.id)) (moment_word l.moment)

abbrev pub asks_at : AtLine → ℤ → List ℕ → Result Command Refusal
asks_at l moment id = result_map (λ payload_type. At id payload_type moment) (type_word l.payload_type)

unfoldable pub at_command : AtLine → Result Command Refusal
at_command l = result_and_then (λ moment. result_and_then (asks_at l moment) (id_named l.resource)) (moment_word l.moment)

abbrev pub asks_between : ListLine → ℤ → ℤ → List ℕ → Result Command Refusal
asks_between l from to id = result_map (λ payload_type. Listed id payload_type from to) (type_word l.payload_type)

unfoldable pub list_command : ListLine → Result Command Refusal
list_command l =
    result_and_then (λ from. result_and_then (λ to. result_and_then (asks_between l from to) (id_named l.resource)) (moment_word l.to)) (moment_word l.from)

unfoldable pub roll_command : RollLine → Result Command Refusal
roll_command l = result_and_then (λ moment. result_map (λ payload_type. Roll payload_type moment) (type_word l.payload_type)) (moment_word l.moment)

abbrev pub types_command : List ℕ → Result Command Refusal
types_command word = result_map Types (id_named word)

-- the query that a line is
unfoldable pub query_named : List ℕ → Result Command Refusal
query_named line =
    option_map_or at_command (at_line line)
    (option_map_or list_command (list_line line)
    (option_map_or roll_command (roll_line line)
    (option_map_or types_command (types_line line) (Err BadLine))))

-- the command that a line is, under limits
unfoldable pub line_named_by : Limits → List ℕ → Result Command Refusal
line_named_by l line =
    if nat_lt 4194304 (length line) then Err LongLine
    else (if bytes_eq line (codes "publish") then Ok Publish
    else (if bytes_eq line (codes "condense") then Ok Condense
    else option_map_or (write_command_by l) (write_line line)
    (option_map_or delete_command (delete_line line) (query_named line))))

-- under the limits in force
abbrev pub object_of : Kind → ℤ → List ℕ → List ℕ → Result Object Refusal
object_of kind now id body = object_of_by limits kind now id body

abbrev pub write_command : WriteLine → Result Command Refusal
write_command line = write_command_by limits line

abbrev pub line_named : List ℕ → Result Command Refusal
line_named line = line_named_by limits line
