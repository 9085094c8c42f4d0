-- The program's text is that of before: "The program keeps 01's limits for bytes and instances and refuses by 1 and 8 there" (document 02, x).
use Prim.Native.Nat.{ℕ}
use mathlib.Core.List.{List}
use mathlib.Core.Path.{◌≡◌, refl}
use Rattle.format.specs.FileLayout.{file_at}
use Rattle.format.specs.NodeLayout.{instance_head_at, node_instance_at, node_at, nodes_at}
use Rattle.format.specs.RegisterLayout.{register_instance_at, register_at, registers_at}
use Rattle.format.specs.Verdict.{verdict}
use Rattle.report.specs.Before.{register_instance_before, register_before, registers_before, instance_head_before, node_instance_before, node_before, nodes_before, file_before, verdict_before, report_before}
use Rattle.report.specs.Report.{find_file, isolate_file, report}

pub report-before : (file : List ℕ) (attention : ℕ) (readings : List ℕ) → report file attention readings ≡ report_before file attention readings
unfolding register_instance_at register_at registers_at instance_head_at node_instance_at node_at nodes_at file_at verdict find_file isolate_file report register_instance_before register_before registers_before instance_head_before node_instance_before node_before nodes_before file_before verdict_before report_before
report-before file attention readings = refl
