use mathlib.Core.Path.{sym, ◌∙◌, ap}
use Rattle.fields.specs.Views.{next_parsed, byte_parsed}
use Rattle.format.specs.FileLayout.{roots_at}
use Rattle.format.specs.Keywords.{root}
use Rattle.index.proofs.Again.{section_rows, section_named, section_counted}
use Rattle.references.proofs.roots.root_position.Goals as goal

pub returns-in-Byte : goal.returns-in-Byte
unfolding roots_at root
returns-in-Byte c = λ ts m e. c.find_root.ensures ts m (section_rows _ _ _ _ _ e (sym (ap next_parsed c.in-Next.is) ∙ c.keyword_at-k.ensures) (sym (ap byte_parsed c.in-Byte.is) ∙ c.byte_count_at-c.ensures))

pub returns-in-Refused-c : goal.returns-in-Refused-c
unfolding roots_at root
returns-in-Refused-c c = λ ts m e. section_counted _ _ _ _ _ e (sym (ap next_parsed c.in-Next.is) ∙ c.keyword_at-k.ensures) (sym (ap byte_parsed c.in-Refused-c.is) ∙ c.byte_count_at-c.ensures)

pub returns-in-Refused : goal.returns-in-Refused
unfolding roots_at root
returns-in-Refused c = λ ts m e. section_named _ _ _ _ _ e (sym (ap next_parsed c.in-Refused.is) ∙ c.keyword_at-k.ensures)
