use mathlib.Core.Path.{sym, ◌∙◌, ap}
use Rattle.limits.specs.Classes.{middle}
use Rattle.limits.specs.Limits.{limits_of}
use Rattle.reader.specs.Layout.{layout_parsed}
use Rattle.reader.proofs.ClassesLaws.{class_answer}
use Rattle.reader.proofs.WholeLaws.{whole_out}
use Rattle.reader.proofs.classes.examine_middle.Goals as goal

pub returns : goal.returns
unfolding limits_of
returns c = record {
  result_value = class_answer _ middle _ c.examine_in.ensures.result_value;
  result_value_2 = λ l e. ap layout_parsed e ∙ sym (whole_out _ _ (c.examine_in.ensures.examined l e).whole).layout;
}
