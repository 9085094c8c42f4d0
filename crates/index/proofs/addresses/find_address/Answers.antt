use mathlib.Core.Path.{sym, ◌∙◌, ap}
use Rattle.fields.specs.Views.{next_parsed, number_parsed}
use Rattle.format.specs.Keywords.{regs}
use Rattle.format.specs.RegisterLayout.{registers_at}
use Rattle.index.specs.Sought.{address_among}
use Rattle.index.proofs.Again.{section_rows, section_named, section_counted}
use Rattle.index.proofs.addresses.find_address.Goals as goal

pub returns-in-Number : goal.returns-in-Number
unfolding registers_at regs address_among
returns-in-Number c =
    λ limit rs m e. c.row_address.ensures limit rs m
    (section_rows _ _ _ _ _ e
    (sym (ap next_parsed c.in-Next.is) ∙ c.keyword_at-k.ensures)
    (sym (ap number_parsed c.in-Number.is) ∙ c.number_count_at-c.ensures))

pub returns-in-Refused-c : goal.returns-in-Refused-c
unfolding registers_at regs
returns-in-Refused-c c =
    λ limit rs m e. section_counted _ _ _ _ _ e
    (sym (ap next_parsed c.in-Next.is) ∙ c.keyword_at-k.ensures)
    (sym (ap number_parsed c.in-Refused-c.is) ∙ c.number_count_at-c.ensures)

pub returns-in-Refused : goal.returns-in-Refused
unfolding registers_at regs
returns-in-Refused c =
    λ limit rs m e. section_named _ _ _ _ _ e (sym (ap next_parsed c.in-Refused.is) ∙ c.keyword_at-k.ensures)
