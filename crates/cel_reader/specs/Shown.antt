-- The words of the code as plain data.
use Rattle.cel_tokens.specs.Token as word
use Rattle.cel_reader.specs.declared.word.Word.{Word, TheVariants.Name, TheVariants.Int, TheVariants.Text, TheVariants.Mark}

-- a word of the code as plain data
abbrev pub word_view : Word → word.Word
word_view (Name bytes) = word.name bytes.now
word_view (Int z) = word.int z
word_view (Text bytes) = word.text bytes.now
word_view (Mark m) = word.mark m
