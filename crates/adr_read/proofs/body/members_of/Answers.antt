use Rattle.std.proofs.Common.{◌≡◌, ◌∷◌, ◌∙◌, [], Some, ap, sym, inr}
use Rattle.json.specs.Lex.{tokens}
use Rattle.adr_read.specs.Tokens.{seen, token_of}
use Rattle.serde_json.specs.Read.{max_depth}
use Rattle.adr_read.specs.Body.{object_or}
use Rattle.adr_read.specs.Coming.{coming}
use Rattle.adr_read.specs.Seen.{value_seen}
use Rattle.adr_read.proofs.Parts.{object_told, nothing_left}
use Rattle.adr_read.proofs.TextLemmas.{value_of_text, no_value}
use Rattle.adr_read.proofs.Turns.{nothing_comes}
use Rattle.adr_read.proofs.Whole.{read_whole, read_none}
use Rattle.adr_read.proofs.body.members_of.Goals as goal

pub returns-in_default-clause-told : goal.returns-in_default-clause-told
returns-in_default-clause-told g c = inr (ap object_or (no_value c.args.is_shielded c.args.text.now (λ utf8. absurd (c.in_default.ensures.cases.0 utf8))))

pub returns-in_default-next-clause-told : goal.returns-in_default-next-clause-told
returns-in_default-next-clause-told g c =
    let text = c.args.text.now in
    let b = c.args.is_shielded in
    let empty : seen b (tokens text) ≡ [] = ap (λ t. seen b (tokens t)) (sym c.in-Ok.ensures.cases.0) ∙ ap (seen b) (sym c.in_ok-reader.ensures.ok) ∙ sym c.new-tokens.ensures ∙ c.in_default-next.ensures.value.0 in
    inr (ap object_or (no_value b text (λ _. read_none (seen b (tokens text)) (ap (coming max_depth) empty ∙ nothing_comes max_depth))))

pub returns-clause-told : goal.returns-clause-told
returns-clause-told g c =
    let text = c.args.text.now in
    let b = c.args.is_shielded in
    let first : seen b (tokens text) ≡ token_of c.in-Some.token ∷ c.next.new.self = ap (λ t. seen b (tokens t)) (sym c.in-Ok.ensures.cases.0) ∙ ap (seen b) (sym c.in_ok-reader.ensures.ok) ∙ sym c.new-tokens.ensures ∙ c.in-Some.ensures.value in
    let told = c.in_ok-members.ensures.told in
    let last : c.read_members.new.reader ≡ [] = (nothing_left _ c.next-2.result c.if-is_some.ensures c.next-2.ensures.value).0 in
    let whole = value_of_text b text told.0 c.in-Ok.ensures.cases.1 (read_whole (seen b (tokens text)) told.0 (ap (coming max_depth) first ∙ told.1 ∙ ap (λ r. Some (told.0, r)) last)) in
    rw c.ok_or.ensures.value (object_told (value_seen b text) told.0 c.in_ok-members.members (λ m d. g.M.Members.are_of c.args.now m d) whole told.2)
