use Rattle.std.proofs.Common.{refl, ◌∙◌, take}
use Rattle.codec.specs.Numbers.{joined}
use Rattle.codec.proofs.Laws.{write_turn}
use Rattle.codec.proofs.write_words.Goals as goal

pub loop-i-init : goal.loop-i-init
unfolding joined
loop-i-init c = refl

pub loop-i-preserved : goal.loop-i-preserved
loop-i-preserved c =
    let w = c.loop-i in
    let a = c.args in
    c.write_word.ensures ∙ write_turn a.k a.b.now (take a.n a.ws.now) w.b a.at w.i c.loop-i-test.true w.invariant
