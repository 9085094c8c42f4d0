use native.Mathlib.Omega.{arith}
use Rattle.fields.proofs.FieldLaws.{keyword_cut, keyword_found, keyword_wrong}
use Rattle.fields.proofs.keyword_at.Goals as goal

pub returns-then-s-at : goal.returns-then-s-at
returns-then-s-at c =
    keyword_cut c.args.s.now c.args.at c.args.word.now (omega arith)

pub returns-then-s-at-2 : goal.returns-then-s-at-2
returns-then-s-at-2 c =
    keyword_cut c.args.s.now c.args.at c.args.word.now (omega arith)

pub returns-then-same_bytes : goal.returns-then-same_bytes
returns-then-same_bytes c =
    keyword_found c.args.s.now c.args.at c.args.word.now (omega arith) c.same_bytes.ensures c.if-same_bytes.true

pub returns : goal.returns
returns c =
    keyword_wrong c.args.s.now c.args.at c.args.word.now (omega arith) c.same_bytes.ensures c.if-same_bytes.false
