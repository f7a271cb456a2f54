use Rattle.adr_desk.proofs.make.followed.Goals as goal

pub regrouped-requires-clause-edited : goal.regrouped-requires-clause-edited
regrouped-requires-clause-edited g c =
    let accepted = c.requires.accepted in
    record {
      accepted = accepted.made;
      keys = accepted.desk.keys_are;
      indexed = accepted.desk.indexed;
      seated = accepted.desk.seated;
    }
