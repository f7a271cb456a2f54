-- A name is looked for in the parts of the table, one after the other.
use Rattle.std.proofs.Common.{◌≡◌, ℕ, Bool, true, false, List, [], ◌∷◌, ◌++◌, Option, Some, None, unwrap_or, bytes_eq, refl, sym, ap, ◌∙◌}
use Rattle.std.specs.Prelude.{map}
use Rattle.std.specs.List.{list_any}
use Rattle.std.specs.Option.{option_or}
use Rattle.adr_value.specs.declared.payload.PayloadType.{PayloadType}
use Rattle.adr_value.specs.declared.payload.PayloadType.TheVariants.{Private}
use Rattle.adr_value.specs.Names.{is_table_name}
use Rattle.adr_value.specs.Payload.{Row, table, signals, capacities, alerts, type_in, type_of}

in_both_at : (b : Bool) (x : List ℕ) (r : Row) (rows more : List Row) → bytes_eq x r.name ≡ b → type_in (rows ++ more) x ≡ option_or (type_in rows x) (type_in more x) → type_in (r ∷ rows ++ more) x ≡ option_or (type_in (r ∷ rows) x) (type_in more x)
in_both_at true x r rows more is later = rw is
in_both_at false x r rows more is later = rw is later

in_both : (rows more : List Row) (x : List ℕ) → type_in (rows ++ more) x ≡ option_or (type_in rows x) (type_in more x)
in_both [] more x = refl
in_both (r ∷ rows) more x = in_both_at _ x r rows more refl (in_both rows more x)

or_assoc : {T : Type 0} (a b c : Option T) → option_or a (option_or b c) ≡ option_or (option_or a b) c
or_assoc None b c = refl
or_assoc (Some p) b c = refl

-- what the three parts give, one after the other
abbrev pub type_in_parts : List ℕ → Option PayloadType
type_in_parts x = option_or (option_or (type_in signals x) (type_in capacities x)) (type_in alerts x)

in_parts : (x : List ℕ) → type_in table x ≡ type_in_parts x
in_parts x =
    in_both signals (capacities ++ alerts) x
    ∙ (ap (option_or (type_in signals x)) (in_both capacities alerts x)
    ∙ or_assoc (type_in signals x) (type_in capacities x) (type_in alerts x))

type_of_parts : (x : List ℕ) (p : PayloadType) → type_in_parts x ≡ Some p → p ≡ type_of x
type_of_parts x p found = sym (ap (λ t. unwrap_or t (Private x)) (in_parts x ∙ found))

pub type_of_found : (x : List ℕ) (s c a : Option PayloadType) (p : PayloadType) → s ≡ type_in signals x → c ≡ type_in capacities x → a ≡ type_in alerts x → option_or (option_or s c) a ≡ Some p → p ≡ type_of x
type_of_found x s c a p es ec ea found = type_of_parts x p (rw (← es, ← ec, ← ea) found)

pub type_of_none : (x : List ℕ) → type_in_parts x ≡ None → Private x ≡ type_of x
type_of_none x none = sym (ap (λ t. unwrap_or t (Private x)) (in_parts x ∙ none))

unnamed_at : (b : Bool) (x : List ℕ) (r : Row) (rows : List Row) → bytes_eq x r.name ≡ b → type_in (r ∷ rows) x ≡ None → (type_in rows x ≡ None → list_any (bytes_eq x) (map (λ r. r.name) rows) ≡ false) → list_any (bytes_eq x) (map (λ r. r.name) (r ∷ rows)) ≡ false
unnamed_at true x r rows is none later = let h : Some r.case ≡ None = rw is at none in absurd cc
unnamed_at false x r rows is none later = let h : type_in rows x ≡ None = rw is at none in rw is (later h)

unnamed : (rows : List Row) (x : List ℕ) → type_in rows x ≡ None → list_any (bytes_eq x) (map (λ r. r.name) rows) ≡ false
unnamed [] x none = refl
unnamed (r ∷ rows) x none = unnamed_at _ x r rows refl none (unnamed rows x)

pub no_table_name : (x : List ℕ) → type_in_parts x ≡ None → is_table_name x ≡ false
no_table_name x none = unnamed table x (in_parts x ∙ none)
