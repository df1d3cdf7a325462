-- Profiles. Source: this project, with Ceph's names of plugins.
use Rattle.std.specs.Prelude.{ℕ, List, codes}
use Rattle.ec_code.specs.declared.profile.Plugin.{Plugin}
use Rattle.ec_code.specs.declared.profile.Plugin.TheVariants.{Jerasure, Lrc, Shec}

-- the name of a plugin: `jerasure`, `lrc` or `shec`
abbrev pub name_of : Plugin → List ℕ
name_of Jerasure = codes "jerasure"
name_of Lrc = codes "lrc"
name_of Shec = codes "shec"
