-- Worked examples: the parts of lines. Words are parted by one space, and a body is all that follows the space behind the id.
use Rattle.std.specs.Prelude.{◌≡◌, [], codes, Some, None, refl}
use Rattle.adr_object.specs.declared.object.Kind.TheVariants.{Program, Ven}
use Rattle.adr_resolver.specs.declared.fields.Verb.TheVariants.{Create, Change}
use Rattle.adr_resolver.specs.Fields.{after_word, at_line, delete_line, edit_line, first_word, last_word, list_line, roll_line, types_line, write_line}

create_with_a_body : write_line (codes "edit h00 create program p1 {\"a\": 1}") ≡ Some (record { moment = codes "h00"; verb = Create; kind = Program; id = codes "p1"; body = codes "{\"a\": 1}" })
unfolding write_line edit_line after_word first_word
create_with_a_body = refl

change_with_an_empty_body : write_line (codes "edit h00 change ven v1 ") ≡ Some (record { moment = codes "h00"; verb = Change; kind = Ven; id = codes "v1"; body = [] })
unfolding write_line edit_line after_word first_word
change_with_an_empty_body = refl

no_space_behind_the_id : write_line (codes "edit h00 change ven v1") ≡ None
unfolding write_line edit_line after_word first_word
no_space_behind_the_id = refl

two_spaces : write_line (codes "edit h00  create ven v1 {}") ≡ None
unfolding write_line edit_line after_word first_word
two_spaces = refl

no_such_kind : write_line (codes "edit h00 create report p1 {}") ≡ None
unfolding write_line edit_line after_word first_word
no_such_kind = refl

delete_with_its_words : delete_line (codes "edit h00 delete ven v1") ≡ Some (record { moment = codes "h00"; kind = Ven; id = codes "v1" })
unfolding delete_line edit_line after_word first_word last_word
delete_with_its_words = refl

delete_with_a_space_at_its_end : delete_line (codes "edit h00 delete ven v1 ") ≡ None
unfolding delete_line edit_line after_word first_word last_word
delete_with_a_space_at_its_end = refl

at_with_its_words : at_line (codes "at r1 PRICE h00") ≡ Some (record { resource = codes "r1"; payload_type = codes "PRICE"; moment = codes "h00" })
unfolding at_line after_word first_word last_word
at_with_its_words = refl

list_with_its_words : list_line (codes "list r1 PRICE h00 h04") ≡ Some (record { resource = codes "r1"; payload_type = codes "PRICE"; from = codes "h00"; to = codes "h04" })
unfolding list_line after_word first_word last_word
list_with_its_words = refl

list_without_an_end : list_line (codes "list r1 PRICE h00") ≡ None
unfolding list_line after_word first_word last_word
list_without_an_end = refl

roll_with_its_words : roll_line (codes "roll PRICE h00") ≡ Some (record { payload_type = codes "PRICE"; moment = codes "h00" })
unfolding roll_line after_word first_word last_word
roll_with_its_words = refl

roll_of_one_resource : roll_line (codes "roll r1 PRICE h00") ≡ None
unfolding roll_line after_word first_word last_word
roll_of_one_resource = refl

types_with_its_word : types_line (codes "types r1") ≡ Some (codes "r1")
unfolding types_line after_word first_word last_word
types_with_its_word = refl

types_without_its_word : types_line (codes "types ") ≡ None
unfolding types_line after_word first_word last_word
types_without_its_word = refl
