use Rattle.std.proofs.Common.{◌∷◌}
use Rattle.std.specs.Prelude.{pos}
use Rattle.std.specs.Str.{bytes_eq}
use Rattle.adr_read.specs.Tokens.{token_of}
use Rattle.adr_read.specs.Coming.{coming}
use Rattle.adr_read.specs.Names.{member_text}
use Rattle.adr_read.specs.Gathering.{kept}
use Rattle.adr_read.proofs.Telling.{told_of_skip, not_equal, equal, put_there}
use Rattle.adr_read.proofs.members.MemberMembers.read.Goals as goal

pub returns-then-ne-clause-told : goal.returns-then-ne-clause-told
returns-then-ne-clause-told g c =
    let name = c.args.name.now in
    let own = member_text c.args.self.now.name in
    told_of_skip c.skip.result (coming c.args.depth (token_of c.args.token ∷ c.args.reader.now)) c.skip.new.reader _ c.skip.ensures.ok c.skip.ensures.bad
    (λ d _ ms. kept g.T.Read.faults (g.T.Read.stands_for (record { moment = c.args.moment; place = pos 0 })) c.args.self.now.value own name d ms (not_equal (bytes_eq name own) (rw c.text.ensures at c.if-ne.ensures)))

pub returns-clause-told : goal.returns-clause-told
returns-clause-told g c =
    let told = c.in_ok-self.ensures in
    let name = c.args.name.now in
    let own = member_text c.args.self.now.name in
    (told.0, told.1, λ ms _. rw (put_there own name told.0 ms (equal (bytes_eq name own) (rw c.text.ensures at c.if-ne.ensures))) told.2)
