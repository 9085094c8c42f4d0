use mathlib.Core.Path.{refl}
use native.Mathlib.Omega.{arith}
use Rattle.reader.proofs.AddressLaws.{address_within, address_short, part_is, part_none, part_place}
use Rattle.reader.proofs.address.address_part.Goals as goal

pub overflow_add-result : goal.overflow_add-result
overflow_add-result c =
    let h = (address_within _ _ (λ i. (c.type_inv.file i).fits) _ _ c.in-Ok.ensures) in
    let k = (address_short _ _ (λ i. (c.type_inv.file i).fits) _ _ c.in-Ok.ensures) in
    omega (arith, h, k)

pub slice_bounds-result-end : goal.slice_bounds-result-end
slice_bounds-result-end c = let h = (address_within _ _ (λ i. (c.type_inv.file i).fits) _ _ c.in-Ok.ensures) in omega (arith, h)

pub returns-in-Ok : goal.returns-in-Ok
returns-in-Ok c =
    let e = c.in-Ok.ensures in
    record {
      place = (refl, part_place _ _ _ _ _ e);
      content = part_is _ _ _ _ e refl;
    }

pub returns-in-Err : goal.returns-in-Err
returns-in-Err c =
    let e = c.in-Err.ensures in
    record {
      place = (refl, part_place _ _ _ _ _ e);
      content = part_none _ _ _ _ e refl;
    }
