-- The station's text before document 02 (x): the layout and the verdict with the numbers of document 01's table written out, "file longer than 65,536 bytes" and "register instance 1,025 or node instance 257 begins".
use Rattle.std.specs.Prelude.{ℕ, ◌+◌, true, List, [], map, ◌++◌, leb, ltb, length}
use Rattle.format.specs.Cycles.{cycle_faults}
use Rattle.format.specs.Fields.{field_at, keyword_at, count_at, address_size, fresh}
use Rattle.format.specs.FileLayout.{start_at, roots_at}
use Rattle.format.specs.Keywords.{regs, node}
use Rattle.format.specs.NodeLayout.{InstanceHead, capture_at, rule_at, child_at, node_head_at, node_total}
use Rattle.format.specs.Parsed.{Parsed, and_then, making, require, requiring, row_at}
use Rattle.format.specs.References.{reference_faults}
use Rattle.format.specs.RegisterLayout.{register_head_at, register_total}
use Rattle.format.specs.Tree.{RegisterInstance, Register, NodeInstance, Node, Chip}
use Rattle.format.specs.Verdict.{judged}
use Rattle.isolation.specs.Outcome.{in_list}
use Rattle.report.specs.Report.{find_file_in, station_list}
use Rattle.report.specs.Text.{text_of}

unfoldable pub register_instance_before : List ℕ → ℕ → ℕ → List RegisterInstance → ℕ → Parsed RegisterInstance
register_instance_before s total type before at =
    and_then (requiring (fresh true (map (λ i. i.number) before)) 7 at (requiring (λ n. ltb (total + length before) 1024) 8 at (field_at s at 1))) λ n a.
    making (λ x. record { number = n; place = a; address = x }) (field_at s a (address_size type))

unfoldable pub register_before : List ℕ → List Register → ℕ → Parsed Register
register_before s before at =
    and_then (register_head_at s true (map (λ r. r.id) before) at) λ h a.
    making (λ is. record { id = h.id; type = h.type; flags = h.flags; instances = is })
    (row_at (register_instance_before s (register_total before) h.type) h.count [] a)

unfoldable pub registers_before : List ℕ → ℕ → Parsed (List Register)
registers_before s at = and_then (keyword_at s at regs) λ _ a. and_then (count_at s a 3) λ n b. row_at (register_before s) n [] b

unfoldable pub instance_head_before : List ℕ → ℕ → List ℕ → ℕ → Parsed InstanceHead
instance_head_before s total numbers at =
    and_then (requiring (fresh true numbers) 7 at (requiring (λ n. ltb total 256) 8 at (field_at s at 1))) λ n a.
    and_then (field_at s a 1) λ c b. and_then (count_at s b 1) λ r d.
    making (λ k. record { number = n; captures = c; rules = r; children = k }) (field_at s d 1)

unfoldable pub node_instance_before : List ℕ → ℕ → List NodeInstance → ℕ → Parsed NodeInstance
node_instance_before s total before at =
    and_then (instance_head_before s (total + length before) (map (λ i. i.number) before) at) λ h a.
    and_then (row_at (capture_at s) h.captures [] a) λ cs b. and_then (row_at (rule_at s true) h.rules [] b) λ rs c.
    making (λ ks. record { place = at; number = h.number; captures = cs; rules = rs; children = ks })
    (row_at (child_at s true) h.children [] c)

unfoldable pub node_before : List ℕ → List Node → ℕ → Parsed Node
node_before s before at =
    and_then (node_head_at s true (map (λ n. n.id) before) at) λ h a.
    making (λ is. record { id = h.id; type = h.type; instances = is })
    (row_at (node_instance_before s (node_total before)) h.count [] a)

unfoldable pub nodes_before : List ℕ → ℕ → Parsed (List Node)
nodes_before s at = and_then (keyword_at s at node) λ _ a. and_then (count_at s a 2) λ n b. row_at (node_before s) n [] b

unfoldable pub file_before : List ℕ → ℕ → Parsed Chip
file_before s at =
    and_then (start_at s at) λ m a. and_then (registers_before s a) λ rs b. and_then (nodes_before s b) λ ns c.
    making (λ ts. record { model = m; registers = rs; nodes = ns; roots = ts }) (roots_at s true c)

unfoldable pub verdict_before : List ℕ → Parsed Chip
verdict_before s =
    require (leb (length s) 65536) 1 0 λ _. and_then (file_before s 0) λ c end. require (leb (length s) end) 11 end λ _.
    judged (reference_faults c ++ cycle_faults c) c end

-- What the station printed.
unfoldable pub report_before : List ℕ → ℕ → List ℕ → List ℕ
report_before file attention readings = text_of (in_list station_list (find_file_in attention readings (verdict_before file)))
