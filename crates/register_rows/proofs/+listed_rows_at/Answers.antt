use mathlib.Core.Path.{sym, ◌∙◌, ap}
use mathlib.Core.List.{map}
use native.Mathlib.Omega.{arith}
use Rattle.limits.specs.Classes.{middle}
use Rattle.format.specs.Lookup.{gathered, entries_of}
use Rattle.format.specs.RegisterLayout.{register_total}
use Rattle.index.specs.Rows.{filled, register_row}
use Rattle.register_rows.proofs.ListedLaws.{told_room, untold_over}
use Rattle.register_rows.proofs.+listed_rows_at.Goals as goal

pub all_rows_at-requires : goal.all_rows_at-requires
all_rows_at-requires t c = c.requires

pub returns-then-larger-eq0 : goal.returns-then-larger-eq0
returns-then-larger-eq0 t c =
    record { result_value = c.all_rows_at.ensures.result_value; kinds_after = c.all_rows_at.ensures.kinds_after }

pub few_rows_at-c-requires : goal.few_rows_at-c-requires
few_rows_at-c-requires t c = c.requires

pub returns-then-is_told : goal.returns-then-is_told
returns-then-is_told t c =
    let h = told_room c.args.n middle.registers _ c.few_rows_at-c.ensures.result_value (sym c.is_told.ensures ∙ c.if-is_told.true) in
    record {
      result_value = h.1;
      kinds_after = λ rs m d. c.few_rows_at-c.ensures.kinds_after rs m h.0 d;
    }

pub listed_rows_at-requires : goal.listed_rows_at-requires
listed_rows_at-requires t c = (omega arith, c.requires)

pub returns : goal.returns
returns t c =
    let h = sym c.is_told.ensures ∙ c.if-is_told.false in
    record {
      result_value = c.listed_rows_at.ensures.result_value;
      kinds_after = λ rs m d. c.listed_rows_at.ensures.kinds_after rs m d ∙ ap (λ t. filled t 0 (map register_row (gathered entries_of rs))) (c.few_rows_at-c.ensures.kinds_unchanged (untold_over c.args.n middle.registers register_total _ c.few_rows_at-c.ensures.result_value h d));
    }
