use Prim.Native.Nat.{◌*◌, ◌<◌}
use mathlib.Core.Path.{◌≡◌}
use native.Mathlib.Omega.{arith}
use lib.ListN.{length, length-set}
use Rattle.walk.specs.Marks.{mark_count}
use Rattle.walk.proofs.Step.{step-not, step_one}
use Rattle.walk.proofs.Tables.{size_few}
use Rattle.walk.proofs.WordsLaws.{word_count, words_taken}
use borrow.Author.Rules.{rules}
use Rattle.walk.proofs.Walk.step.Goals as goal

pub first_waiting-k-requires : goal.first_waiting-k-requires
first_waiting-k-requires c =
    let l : length c.args.self.waiting ≡ word_count = search rules in
    omega arith

pub returns-then-n-k : goal.returns-then-n-k
returns-then-n-k c =
    let l : length c.args.self.marks ≡ mark_count = search rules in
    let k : length c.args.self.waiting ≡ word_count = search rules in
    λ e. step-not _ _ _ _ _ (c.first_waiting-k.ensures c.args.self.marks (omega arith) e) c.size-n.ensures e c.if-n-k.true

pub bounds-m-k : goal.bounds-m-k
bounds-m-k c =
    omega (arith, c.size-n.ensures, size_few c.args.active.now)

pub bounds-words-j : goal.bounds-words-j
bounds-words-j c =
    omega (arith, c.size-n.ensures, size_few c.args.active.now)

pub bounds-words-j-2 : goal.bounds-words-j-2
bounds-words-j-2 c =
    omega (arith, c.size-n.ensures, size_few c.args.active.now)

pub touch_all-requires : goal.touch_all-requires
touch_all-requires c =
    let l : length c.args.self.marks ≡ mark_count = search rules in
    let k : length c.args.self.waiting ≡ word_count = search rules in
    (c.size-n.ensures, search rules, c.if-n-k.false, simp length-set (omega arith))

pub returns : goal.returns
returns c =
    let l : length c.args.self.marks ≡ mark_count = search (rules, c.well_formed.0) in
    let k : length c.args.self.waiting ≡ word_count = search (rules, c.well_formed.0) in
    let s : length c.args.self.marks ≡ length c.args.self.waiting * 64 = omega arith in
    let i : c.first_waiting-k.result < length c.args.self.marks = omega (arith, c.if-n-k.false, c.size-n.ensures, size_few c.args.active.now) in
    λ e.
    let f = c.first_waiting-k.ensures c.args.self.marks s e in
    step_one _ _ c.args.self _ _ f c.size-n.ensures c.if-n-k.false i
    c.touch_all.ensures.m_after (c.touch_all.ensures.words_after (words_taken _ _ s e f i c.without_next-x.ensures))
