use Rattle.std.proofs.Common.{◌≡◌, ◌++◌, ap, codes, decimal}
use Rattle.relief.specs.Ends.{maps_fault_line}
use Rattle.relief.proofs.fault_line.write_maps_fault.Goals as goal

pub returns-in-UnknownMap : goal.returns-in-UnknownMap
returns-in-UnknownMap g c =
    let line : maps_fault_line c.args.fault.now
    ≡ codes "relief: bad map word " ++ decimal c.in-UnknownMap.place ++ codes "\n" =
    ap maps_fault_line c.in-UnknownMap.is in
    rw line c.write_bad_word.ensures

pub returns-in-RepeatedMap : goal.returns-in-RepeatedMap
returns-in-RepeatedMap g c =
    let line : maps_fault_line c.args.fault.now ≡ codes "relief: a map is named twice\n" =
    ap maps_fault_line c.in-RepeatedMap.is in
    rw line c.write_fixed_line.ensures

pub returns-in-NoGauge : goal.returns-in-NoGauge
returns-in-NoGauge g c =
    let line : maps_fault_line c.args.fault.now ≡ codes "relief: catchments without a gauge\n" =
    ap maps_fault_line c.in-NoGauge.is in
    rw line c.write_fixed_line-in-NoGauge.ensures

pub returns-in-NoCatchments : goal.returns-in-NoCatchments
returns-in-NoCatchments g c =
    let line : maps_fault_line c.args.fault.now ≡ codes "relief: a gauge without catchments\n" =
    ap maps_fault_line c.in-NoCatchments.is in
    rw line c.write_fixed_line-in-NoCatchments.ensures
