use Prim.Native.Nat.{ℕ}
use mathlib.Core.Path.{◌≡◌, sym, ◌∙◌, ap}
use native.Mathlib.Omega.{arith}
use Rattle.fields.specs.Views.{section_parsed}
use Rattle.node_pass.proofs.SectionLaws.{one_section}
use Rattle.node_pass.proofs.section.exact_at.Goals as goal

pub returns-in-Section : goal.returns-in-Section
returns-in-Section c = record {
  result_value = sym (ap section_parsed c.in-Section.is) ∙ c.nodes_at-e.ensures.result_value;
  fits_value = λ p ns end q d. (sym (ap (λ y. y.fits) (one_section q)), c.nodes_at-e.ensures.fact ns end d);
}

pub returns-in-Refused : goal.returns-in-Refused
returns-in-Refused c = record {
  result_value = sym (ap section_parsed c.in-Refused.is) ∙ c.nodes_at-e.ensures.result_value;
  fits_value = λ p ns end q d. let z : ◌≡◌ {A = ℕ} 0 1 = cc in absurd (omega arith);
}
