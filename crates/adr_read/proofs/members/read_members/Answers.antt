use Rattle.std.proofs.Common.{◌≡◌, ◌∷◌, ◌∙◌, ◌-◌, Some, None, refl, ap, arith}
use Rattle.std.proofs.lemmas.Result.{err_from_is_err_and}
use Rattle.json.specs.Token.{Token}
use Rattle.json.specs.Json.{parse_map, read_key, value}
use Rattle.adr_read.specs.Tokens.{token_of}
use Rattle.json.proofs.Grammar.{read_key-shorter}
use Rattle.serde_json.specs.Data.{object, put}
use Rattle.adr_read.specs.Coming.{coming}
use Rattle.adr_read.proofs.ComingLemmas.{coming-shorter, coming-as_object, coming-begin_object}
use Rattle.adr_read.proofs.Turns.{gathered_end, closed-object}
use Rattle.adr_read.proofs.SkipLemmas.{member_passed, member_refused}
use Rattle.adr_read.proofs.Telling.{fault_of, not_begin_object}
use Rattle.adr_read.proofs.members.read_members.Goals as goal

pub returns-in_default : goal.returns-in_default
returns-in_default g c =
    let comes = c.in_ok-skip.ensures.ok in
    record {
      told = (comes.0, comes.1, coming-as_object c.args.depth (token_of c.args.token) c.args.reader.now c.skip.new.reader comes.0 comes.1 (not_begin_object c.args.token c.in_default.not-BeginObject));
      names = tt;
    }

pub returns-then-depth-eq0-clause-told : goal.returns-then-depth-eq0-clause-told
returns-then-depth-eq0-clause-told g c _ =
    let ts = c.args.reader.now in
    (refl, ap (λ t. coming c.args.depth (token_of t ∷ ts)) c.in-BeginObject.is ∙ ap (λ depth. coming depth (Token.begin_object ∷ ts)) c.if-depth-eq0.true ∙ closed-object ts)

pub returns-in_err-name-clause-told : goal.returns-in_err-name-clause-told
returns-in_err-name-clause-told g c =
    let ts = c.args.reader.now in
    let depth = c.args.depth - 1 in
    let opened = ap (λ t. coming c.args.depth (token_of t ∷ ts)) c.in-BeginObject.is ∙ coming-begin_object c.args.depth ts (omega (arith, c.if-depth-eq0.false)) in
    let so_far = c.members.invariant in
    let bad = c.in_err-name.ensures.bad in
    let out = err_from_is_err_and c.from_residual-in_err-name.result c.from_residual-in_err-name.ensures.1 in
    rw (out.1, out.2) (λ _. (bad.0, opened ∙ ap (parse_map object) (so_far.3 ∙ bad.1 depth so_far.0 so_far.1)))

pub members-smaller : goal.members-smaller
members-smaller g c =
    let told = c.in_ok-read.ensures.told in
    let keyed : read_key c.members.reader ≡ Some (Some c.in-Some.name.now, token_of c.in-Some.token ∷ c.next_member.new.reader) = rw c.in-Some.is at c.in_ok-name.ensures.found in
    omega (arith, read_key-shorter c.members.reader (Some c.in-Some.name.now) (token_of c.in-Some.token ∷ c.next_member.new.reader) keyed, coming-shorter (c.args.depth - 1) (token_of c.in-Some.token ∷ c.next_member.new.reader) c.read.new.reader told.0 told.1)

pub members-preserved : goal.members-preserved
members-preserved g c =
    let told = c.in_ok-read.ensures.told in
    let so_far = c.members.invariant in
    let ts = c.members.reader in
    let name = c.in-Some.name.now in
    let s = token_of c.in-Some.token ∷ c.next_member.new.reader in
    let r = c.read.new.reader in
    let keyed : read_key ts ≡ Some (Some name, s) = rw c.in-Some.is at c.in_ok-name.ensures.found in
    let less = read_key-shorter ts (Some name) s keyed in
    let lesser = coming-shorter (c.args.depth - 1) s r told.0 told.1 in (
      so_far.0 - 1,
      put name told.0 so_far.1,
      omega (arith, so_far.2),
      so_far.3 ∙ member_passed (value (c.args.depth - 1)) so_far.1 so_far.0 name ts s r told.0 (omega (arith, so_far.2)) keyed told.1,
      told.2 so_far.1 so_far.4,
      c.in_ok-read.ensures.names ∙ so_far.5,
    )

pub returns-in_err-read-clause-told : goal.returns-in_err-read-clause-told
returns-in_err-read-clause-told g c =
    let ts = c.args.reader.now in
    let depth = c.args.depth - 1 in
    let opened = ap (λ t. coming c.args.depth (token_of t ∷ ts)) c.in-BeginObject.is ∙ coming-begin_object c.args.depth ts (omega (arith, c.if-depth-eq0.false)) in
    let so_far = c.members.invariant in
    let name = c.in-Some.name.now in
    let s = token_of c.in-Some.token ∷ c.next_member.new.reader in
    let keyed : read_key c.members.reader ≡ Some (Some name, s) = rw c.in-Some.is at c.in_ok-name.ensures.found in
    let out = err_from_is_err_and c.from_residual-in_err-read.result c.from_residual-in_err-read.ensures.1 in
    rw (out.1, out.2) (fault_of c.in_err-read.field-0.0 (coming depth s) (coming c.args.depth (token_of c.args.token ∷ ts)) (λ none. opened ∙ ap (parse_map object) (so_far.3 ∙ member_refused (value depth) so_far.1 so_far.0 name c.members.reader s keyed none)) c.in_err-read.ensures.told)

pub returns-clause-told : goal.returns-clause-told
returns-clause-told g c =
    let ts = c.args.reader.now in
    let depth = c.args.depth - 1 in
    let opened = ap (λ t. coming c.args.depth (token_of t ∷ ts)) c.in-BeginObject.is ∙ coming-begin_object c.args.depth ts (omega (arith, c.if-depth-eq0.false)) in
    let so_far = c.members.invariant in
    let ends : read_key c.members.reader ≡ Some (None, c.next_member.new.reader) = rw c.in_default-2.is at c.in_ok-name.ensures.found in
    (object so_far.1, opened ∙ ap (parse_map object) (so_far.3 ∙ gathered_end depth so_far.0 so_far.1 c.members.reader c.next_member.new.reader so_far.2 ends), (so_far.1, refl, so_far.4))
