mod Colours
mod Unpainted
