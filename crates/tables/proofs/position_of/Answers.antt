use Rattle.std.proofs.Common.{◌≡◌, Some, None, eqb, rules, tests}
use Rattle.std.specs.List.{position}
use Rattle.std.proofs.lemmas.Iterator.{YieldsList-from_slice}
use Rattle.std.proofs.lemmas.Iterator.Search.{position_from_yields_List}
use Rattle.tables.proofs.TablesLaws.{position_or}
use Rattle.tables.proofs.position_of.Goals as goal

pub returns-in-Some : goal.returns-in-Some
returns-in-Some c =
    let found : Some c.in-Some.i ≡ position (λ y. eqb y c.args.x) c.args.table.now =
    position_from_yields_List (λ y. eqb y c.args.x) _ _ _ c.in-Some.ensures.ran (YieldsList-from_slice c.args.table.now cc) (λ y b q k. search (rules, tests)) in
    position_or _ _ found

pub returns-in-None : goal.returns-in-None
returns-in-None c =
    let found : None ≡ position (λ y. eqb y c.args.x) c.args.table.now =
    position_from_yields_List (λ y. eqb y c.args.x) _ _ _ c.in-None.ensures.ran (YieldsList-from_slice c.args.table.now cc) (λ y b q k. search (rules, tests)) in
    position_or _ _ found
