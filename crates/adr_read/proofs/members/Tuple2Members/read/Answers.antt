use Rattle.std.proofs.Common.{◌∷◌, sym}
use Rattle.adr_read.specs.Tokens.{token_of}
use Rattle.adr_read.specs.Coming.{coming}
use Rattle.adr_read.proofs.Telling.{told_as, apart_left, apart_right, only_left}
use Rattle.adr_read.proofs.members.Tuple2Members.read.Goals as goal

pub read-requires : goal.read-requires
read-requires g c = record { apart = apart_left (g.A.Members.names c.args.self.now.0) (g.B.Members.names c.args.self.now.1) c.requires.apart; sound = c.requires.sound }

pub read-requires-else-have : goal.read-requires-else-have
read-requires-else-have g c = record { apart = apart_right (g.A.Members.names c.args.self.now.0) (g.B.Members.names c.args.self.now.1) c.requires.apart; sound = c.requires.sound }

pub returns-then-have-clause-told : goal.returns-then-have-clause-told
returns-then-have-clause-told g c =
    let other = only_left c.args.name.now (g.A.Members.names c.args.self.now.0) (g.B.Members.names c.args.self.now.1) c.requires.apart (sym c.if-have.ensures) in
    told_as c.read.result (coming c.args.depth (token_of c.args.token ∷ c.args.reader.now)) c.read.new.reader _ _
    (λ d _ more ms are. (more ms are.0, g.met.B.Members.others c.args.moment c.args.self.now.1 c.args.name.now d ms other are.1)) c.read.ensures.told
