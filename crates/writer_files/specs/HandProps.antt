-- That a stock is as it must be is a fact, of which there is at most one proof, so a writer's files can carry it.
use Rattle.std.proofs.Props.{props}
use Rattle.std.specs.Prelude.{List, [], ◌∷◌}
use Rattle.dir_files.specs.Ports.{Port}
use Rattle.value_chunk.specs.Chunks.{Chunk}
use Rattle.writer_files.specs.Hands.{AreOnce, AreOut}
use Rattle.writer_files.specs.Stocks.{Stock, IsStock}

once_prop : (cs : List Chunk) → IsProp (AreOnce cs)
once_prop [] = hlevel
once_prop (c ∷ cs) = hlevel (once_prop cs, props)

out_prop : (port : Port) (cs : List Chunk) → IsProp (AreOut port cs)
out_prop port [] = hlevel
out_prop port (c ∷ cs) = hlevel (out_prop port cs, props)

pub stock_prop : (s : Stock) → IsProp (IsStock s)
stock_prop s = hlevel (once_prop, out_prop, props)
