-- What a contract sees of a pool. Source: this project.
use Rattle.pool_moves.specs.Contents.{Layout}
use Rattle.pool_core.specs.declared.pool.Pool.{Pool}

-- how its slots are read
abbrev pub layout_of : Pool → Layout
layout_of pool = record { geometry = record { k = pool.geometry.k; unit = pool.geometry.unit }; n = pool.n }
