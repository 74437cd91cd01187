use Rattle.std.proofs.Common.{◌≡◌, ◌≤◌, ◌++◌, ◌*◌}
use Rattle.scc_gen.specs.Generated.{drawn, gen_text}
use Rattle.scc_gen.specs.Grown.{HasGrown}
use Rattle.scc_gen.proofs.text.put_text.Given as goal

abbrev pub invariant-loop-number : goal.invariant-loop-number
invariant-loop-number l = record {
  drawn : l.draws.last ≡ drawn l.seed (5 * l._number);
  room : l.draws.last ≤ 65536;
  text : l.out.items ≡ l.fn.out.items ++ gen_text l.seed l._number;
  grown : HasGrown l.fn.out.items l.out.items;
}
