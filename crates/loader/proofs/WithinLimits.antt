-- Code and constants make an image exactly if they are within the limits.
use Rattle.loader.proofs.Prelude.{◌≡◌, arith, Ok, Image, IsImage, image_from}

pub made : (c : Image) → IsImage c → image_from c.version c.code c.constants ≡ Ok c
unfolding image_from
made c i = grind arith

pub keeps : (c : Image) → image_from c.version c.code c.constants ≡ Ok c → IsImage c
unfolding image_from
keeps c h = grind arith
