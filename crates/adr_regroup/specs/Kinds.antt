-- What an edit is of.
use Rattle.adr_object.specs.Object.{kind_of}
use Rattle.adr_object.specs.declared.object.Edit.{Edit}
use Rattle.adr_object.specs.declared.object.Edit.TheVariants.{Create, Change, Remove}
use Rattle.adr_object.specs.declared.object.Kind.{Kind}

-- the kind of the object that an edit creates, changes or removes
abbrev pub kind_of_edit : Edit → Kind
kind_of_edit (Create o) = kind_of o
kind_of_edit (Change o) = kind_of o
kind_of_edit (Remove kind id) = kind
