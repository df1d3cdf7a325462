-- Each profile that was read can be written as lines.
use Rattle.std.proofs.Common.{◌≡◌, ℕ, List, Ok}
use Rattle.ec_code.specs.declared.profile.Profile.{Profile}
use Rattle.ec_code.specs.JsonProfiles.{profile_of_json, profile_of_bytes}
use Rattle.ec_code.specs.Readings.{profile_of}
use Rattle.ec_code.proofs.WrittenLemmas.{IsRead, read_mapping, read_layers, text_is_read, json_is_read, bytes_are_read}
use Rattle.plugin_reg.specs.Canonical.{IsWritable}

pub writable : (p : Profile) → IsRead p → IsWritable p
writable p is of_lrc written = record { mapping = read_mapping p is; layers = read_layers p is }

pub read_is_writable : (text : List ℕ) (p : Profile) → profile_of text ≡ Ok p → IsWritable p
read_is_writable text p e = writable p (text_is_read text p e)

pub json_is_writable : (text : List ℕ) (p : Profile) → profile_of_json text ≡ Ok p → IsWritable p
json_is_writable text p e = writable p (json_is_read text p e)

pub bytes_are_writable : (bytes : List ℕ) (p : Profile) → profile_of_bytes bytes ≡ Ok p → IsWritable p
bytes_are_writable bytes p e = writable p (bytes_are_read bytes p e)
