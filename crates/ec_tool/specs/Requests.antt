-- Requests, as they are read from the words. Source: this project.
use Rattle.ec_files.specs.Jobs.{job_of}
use Rattle.ec_tool.specs.declared.request.Request.{Request}
use Rattle.ec_tool.specs.declared.request.Request.TheVariants.{Wrong, Exists, Validate, Size, Encode, Decode}
use Rattle.ec_tool.specs.Words.{Words, texts_of, AreWrong, AskExists, AskValidate, AskSize, AskEncode, AskDecode}

-- the words ask for this
abbrev pub Asks : Words → Request → Type 0
Asks words Wrong = AreWrong words
Asks words (Exists plugin) = AskExists words plugin.now
Asks words (Validate profile parameters) = AskValidate words profile.now (texts_of parameters.now)
Asks words (Size profile size) = AskSize words profile.now size
Asks words (Encode coding) = AskEncode words (job_of coding)
Asks words (Decode coding) = AskDecode words (job_of coding)
