use Rattle.std.proofs.Common.{◌∙◌}
use Rattle.adr_shared.proofs.Leads.{eight_digits}
use Rattle.adr_shared.proofs.lead.text_lead.Goals as goal

pub returns : goal.returns
returns c =
    c.from_be_bytes.ensures
    ∙ rw (c.byte_at.ensures, c.byte_at-2.ensures, c.byte_at-3.ensures, c.byte_at-4.ensures, c.byte_at-5.ensures, c.byte_at-6.ensures, c.byte_at-7.ensures, c.byte_at-8.ensures)
    (eight_digits c.args.bytes.now)
