-- Worked examples: replies of the machine as the lines that a script is answered.
use Rattle.std.specs.Prelude.{◌≡◌, codes, refl}
use Rattle.std.specs.Fmt.{digits}
use Rattle.adr_refusal.specs.declared.refusal.Refusal.TheVariants.{Exists}
use Rattle.adr_model.specs.Machine.{condensed, done, published, refused}
use Rattle.adr_resolver.specs.Text.{reply_line}

ok_1 : reply_line (done 1) ≡ codes "ok 1\n"
unfolding digits
ok_1 = refl

ok_1000000000000 : reply_line (done 1000000000000) ≡ codes "ok 1000000000000\n"
unfolding digits
ok_1000000000000 = refl

condensed_version_6 : reply_line (condensed 6) ≡ codes "condensed version 6\n"
unfolding digits
condensed_version_6 = refl

published_1_version_4 : reply_line (published 1 4) ≡ codes "published 1 version 4\n"
unfolding digits
published_1_version_4 = refl

refused_22 : reply_line (refused Exists) ≡ codes "refused 22 Exists\n"
unfolding digits
refused_22 = refl
